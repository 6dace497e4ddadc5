-- What a user of the record file can rely on, who sees the line and not the file.
use Rattle.std.specs.Prelude.{◌≡◌, ℕ, ◌≤◌, cond, ◌&&◌, List, [], ◌∷◌, length, replicate, Some, None, Option, ◌==◌, ◌≢◌}
use Rattle.apdu.specs.Command.{Command, command_in, data_of}
use Rattle.apdu.specs.Reply.{reply as replying, says}
use Rattle.apdu.specs.declared.status.Status.TheVariants.{Done}
use Rattle.application.specs.Acts.{Acts, Exchange, after, line}

-- The bytes of record n after an exchange: a DC with P1 n that was answered 90 00 wrote its data, and all else left them.
abbrev pub wrote : ℕ → Option Command → List ℕ → List ℕ → List ℕ
wrote n None r old = old
wrote n (Some c) r old = cond (c.ins == 0xDC && (c.p1 == n && says Done r)) (data_of c.shape) old

-- What was last written to record n, by what passed over the line; old where nothing was.
abbrev pub last_written : ℕ → List ℕ → List Exchange → List ℕ
last_written n old [] = old
last_written n old (e ∷ es) = last_written n (wrote n (command_in e.command) e.reply old) es

-- An application is a record file to which nothing was written yet. After any commands, whatever stood between them:
pub record KeepsRecords {M : Type 0} (𝓐 : Acts M) (m : M) : Type 0 where
  -- B2 with P1 from 1 to 8 replies that record as last written, and zero bytes where it never was;
  pub reads : (cs : List (List ℕ)) (bs : List ℕ) (c : Command) → command_in bs ≡ Some c → c.ins ≡ 0xB2 → 1 ≤ c.p1 → c.p1 ≤ 8
      → 𝓐.reply (after 𝓐 m cs) bs ≡ replying (last_written c.p1 (replicate 16 0) (line 𝓐 m cs)) Done
  -- DC with P1 from 1 to 8 and sixteen bytes is answered 90 00;
  pub takes : (cs : List (List ℕ)) (bs : List ℕ) (c : Command) → command_in bs ≡ Some c → c.ins ≡ 0xDC → 1 ≤ c.p1 → c.p1 ≤ 8
      → length (data_of c.shape) ≡ 16 → 𝓐.reply (after 𝓐 m cs) bs ≡ replying [] Done
  -- a command with another P1 changes nothing that B2 replies of a record.
  pub apart : (cs : List (List ℕ)) (ws bs : List ℕ) (w c : Command) → command_in ws ≡ Some w → command_in bs ≡ Some c → c.ins ≡ 0xB2
      → (w.p1 ≢ c.p1) → 𝓐.reply (𝓐.next (after 𝓐 m cs) ws) bs ≡ 𝓐.reply (after 𝓐 m cs) bs
