-- What the counter holds is what passed over the line: so it keeps the clearing house's law.
use Rattle.std.proofs.Common.{◌≡◌, ℕ, ◌<◌, ◌≤◌, Bool, true, false, cond, ◌&&◌, eqb, ltb, List, [], ◌∷◌, ◌++◌, length, Some, None, Option, sym, refl, ap, ◌∙◌, subst, ⊎_elim, arith}
use Rattle.std.proofs.lemmas.List.{append-nil, append_assoc, length_push}
use Rattle.std.proofs.lemmas.Bool.{cases_lt, lt-ltb, le-ltb}
use Rattle.byte_lists.specs.Numbers.{octets}
use Rattle.apdu.specs.Command.{Command, command_in, data_of}
use Rattle.apdu.specs.Reply.{reply as replying, says}
use Rattle.apdu.specs.declared.status.Status.TheVariants.{Done, NoRoom, UnknownInstruction}
use Rattle.application.specs.Acts.{after, line}
use Rattle.application.specs.Commands.{Turn, turn, upon}
use Rattle.fares.specs.declared.fare.Fare.{Fare}
use Rattle.fares.specs.Counter.{fare_in, takings, append, carried, counts}
use Rattle.fares.specs.Takings.{any, appended, booked, CountsFares}

-- The turn by the two tests on INS.
abbrev chosen : List Fare → Command → Bool → Bool → Turn (List Fare)
chosen m c t u = cond t (append m (fare_in (data_of c.shape))) (cond u (turn (octets 8 (takings m)) Done m) (turn [] UnknownInstruction m))

carried_ins : (m : List Fare) (c : Command) (n : ℕ) → c.ins ≡ n → carried m c ≡ chosen m c (eqb n 0xE2) (eqb n 0xCA)
carried_ins m c n e = ap (λ k. chosen m c (eqb k 0xE2) (eqb k 0xCA)) e

-- An append by the test for room.
abbrev pushed : List Fare → Fare → Bool → Turn (List Fare)
pushed m f t = cond t (turn [] Done (m ++ f ∷ [])) (turn [] NoRoom m)

-- What an append leaves is what the line shows of it.
books_append : (m : List Fare) (o : Option Fare) → (append m o).contents ≡ m ++ cond (says Done (append m o).reply) (any o) []
books_append m None = sym (append-nil m)
books_append m (Some f) =
    let P : Bool → Type 0 = λ t. (pushed m f t).contents ≡ m ++ cond (says Done (pushed m f t).reply) (f ∷ []) [] in
    elim (ltb (length m) 32) as P [ true ↦ refl | false ↦ sym (append-nil m) ]

-- The same of every command.
books_carried : (m : List Fare) (c : Command) (t u : Bool)
    → (chosen m c t u).contents
    ≡ m ++ cond (t && says Done (chosen m c t u).reply) (any (fare_in (data_of c.shape))) []
books_carried m c true u = books_append m (fare_in (data_of c.shape))
books_carried m c false true = sym (append-nil m)
books_carried m c false false = sym (append-nil m)

books_upon : (m : List Fare) (o : Option Command) → (upon carried m o).contents ≡ m ++ appended o (upon carried m o).reply
books_upon m None = sym (append-nil m)
books_upon m (Some c) = books_carried m c (eqb c.ins 0xE2) (eqb c.ins 0xCA)

-- After any commands the counter holds what it held, and then what was booked.
books : (cs : List (List ℕ)) (m : List Fare) → after counts m cs ≡ m ++ booked (line counts m cs)
books [] m = sym (append-nil m)
books (bs ∷ cs) m =
    let n = counts.next m bs in
    let more = appended (command_in bs) (counts.reply m bs) in
    books cs n ∙ ap (λ t. t ++ booked (line counts n cs)) (books_upon m (command_in bs)) ∙ append_assoc m more (booked (line counts n cs))

-- It never holds more than 32.
few_append : (m : List Fare) (o : Option Fare) → length m ≤ 32 → length (append m o).contents ≤ 32
few_append m None h = h
few_append m (Some f) h =
    ⊎_elim
    (λ (l : length m < 32). let e = length_push m f in subst (λ (t : Bool). length (pushed m f t).contents ≤ 32) (sym (lt-ltb (length m) 32 l)) (omega arith))
    (λ (l : 32 ≤ length m). subst (λ (t : Bool). length (pushed m f t).contents ≤ 32) (sym (le-ltb (length m) 32 l)) h)
    (cases_lt (length m) 32)

few_carried : (m : List Fare) (c : Command) (t u : Bool) → length m ≤ 32
    → length (chosen m c t u).contents ≤ 32
few_carried m c true u h = few_append m (fare_in (data_of c.shape)) h
few_carried m c false true h = h
few_carried m c false false h = h

few_upon : (m : List Fare) (o : Option Command) → length m ≤ 32 → length (upon carried m o).contents ≤ 32
few_upon m None h = h
few_upon m (Some c) h = few_carried m c (eqb c.ins 0xE2) (eqb c.ins 0xCA) h

few_after : (cs : List (List ℕ)) (m : List Fare) → length m ≤ 32 → length (after counts m cs) ≤ 32
few_after [] m h = h
few_after (bs ∷ cs) m h = few_after cs (counts.next m bs) (few_upon m (command_in bs) h)

-- The reply to bytes that read as the command c.
reply_to : (m : List Fare) (bs : List ℕ) (c : Command) → command_in bs ≡ Some c → counts.reply m bs ≡ (carried m c).reply
reply_to m bs c e = ap (λ o. (upon carried m o).reply) e

-- The reply to an append of what o names.
reply_append : (m : List Fare) (bs : List ℕ) (c : Command) (o : Option Fare) → command_in bs ≡ Some c → c.ins ≡ 0xE2 → fare_in (data_of c.shape) ≡ o
    → counts.reply m bs ≡ (append m o).reply
reply_append m bs c o e i f = reply_to m bs c e ∙ ap (λ t. t.reply) (carried_ins m c 0xE2 i) ∙ ap (λ x. (append m x).reply) f

room_left : (m : List Fare) (f : Fare) → length m < 32 → (append m (Some f)).reply ≡ replying [] Done
room_left m f h = ap (λ t. (pushed m f t).reply) (lt-ltb (length m) 32 h)

none_left : (m : List Fare) (f : Fare) → 32 ≤ length m → (append m (Some f)).reply ≡ replying [] NoRoom
none_left m f h = ap (λ t. (pushed m f t).reply) (le-ltb (length m) 32 h)

pub counts_fares : CountsFares counts []
counts_fares = record {
  few = λ cs. subst (λ (t : List Fare). length t ≤ 32) (books cs []) (few_after cs [] (omega arith));
  sums = λ cs bs c e i. reply_to (after counts [] cs) bs c e ∙ ap (λ t. t.reply) (carried_ins (after counts [] cs) c 0xCA i) ∙ ap (λ m. replying (octets 8 (takings m)) Done) (books cs []);
  takes = λ cs bs c f e i n h. reply_append (after counts [] cs) bs c (Some f) e i n
      ∙ room_left (after counts [] cs) f (subst (λ (t : List Fare). length t < 32) (sym (books cs [])) h);
  fills = λ cs bs c f e i n h. reply_append (after counts [] cs) bs c (Some f) e i n
      ∙ none_left (after counts [] cs) f (subst (λ (t : List Fare). 32 ≤ length t) (sym (books cs [])) h);
  refuses = λ cs bs c e i n. reply_append (after counts [] cs) bs c None e i n;
}
