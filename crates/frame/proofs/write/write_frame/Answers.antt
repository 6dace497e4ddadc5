use Rattle.std.proofs.Common.{◌≡◌, ℕ, ◌+◌, ◌-◌, ◌%◌, ◌≤◌, List, ◌++◌, length, take, drop, replicate, sym, ap, ◌∙◌, arith, length-append}
use Rattle.std.proofs.lemmas.List.{take_at, length-replicate}
use Rattle.byte_lists.proofs.Written.{put_more}
use Rattle.sealing.specs.Sealing.{Text, text}
use Rattle.frame.specs.Frame.{front, frame, missing}
use Rattle.frame.proofs.Laws.{length_front}
use Rattle.frame.proofs.Filled.{filled, filled_short}
use Rattle.frame.proofs.write.write_frame.Goals as goal

pub returns : goal.returns
unfolding frame
returns g c =
    let n : ℕ = c.args.block in
    let size : ℕ = g.I.Integrity.LEN in
    let check : List ℕ → List ℕ = g.I.Integrity.check c.args.mechanism.now in
    let t : Text = text c.args.direction c.args.number c.args.body.now in
    let orig : List ℕ = c.args.out.now in
    let a : List ℕ = c.put_front-end.new.out in
    let b : List ℕ = c.put_check-checked.new.out in
    let end : ℕ = c.put_front-end.result in
    let m : ℕ = c.in_blocks-whole.result - c.put_check-checked.result in
    let at_front : end ≡ length (front t) = c.put_front-end.ensures.end ∙ sym (length_front t) in
    let before : take end a ≡ front t = ap (take end) c.put_front-end.ensures.bytes ∙ take_at (front t) (drop (length (front t)) orig) end (sym at_front) in
    let long : length (check (front t)) ≡ size = ap (λ zs. length (check zs)) (sym before) ∙ c.put_check-checked.ensures.long in
    let checked : b ≡ take end a ++ (check (front t) ++ drop (end + length (check (front t))) a) =
    c.put_check-checked.ensures.bytes
    ∙ ap (λ zs. take end a ++ (check zs ++ drop (end + size) a)) before
    ∙ ap (λ k. take end a ++ (check (front t) ++ drop (end + k) a)) (sym long) in
    let behind = put_more orig (front t) (check (front t)) a b end at_front c.put_front-end.ensures.bytes checked in
    let total : c.put_check-checked.result ≡ length (front t ++ check (front t)) =
    c.put_check-checked.ensures.end ∙ sym (length-append (front t) (check (front t)) ∙ omega arith) in
    let fill : m ≡ missing n (length (front t ++ check (front t))) =
    ap (λ k. k - c.put_check-checked.result) c.in_blocks-whole.ensures ∙ omega arith ∙ ap (missing n) total in
    let size-m : length (replicate {A = ℕ} m 0) ≡ m = length-replicate m 0 in
    let zeros : c.put_zeros.new.out ≡ take c.put_check-checked.result b ++ (replicate m 0 ++ drop (c.put_check-checked.result + length (replicate {A = ℕ} m 0)) b) =
    c.put_zeros.ensures ∙ ap (λ k. take c.put_check-checked.result b ++ (replicate m 0 ++ drop (c.put_check-checked.result + k) b)) (sym size-m) in
    let done = put_more orig (front t ++ check (front t)) (replicate m 0) b c.put_zeros.new.out c.put_check-checked.result total behind zeros in
    let whole : (front t ++ check (front t)) ++ replicate m 0 ≡ frame n check t = ap (λ k. (front t ++ check (front t)) ++ replicate k 0) fill in
    let up : c.in_blocks-whole.result ≡ c.put_check-checked.result + missing n c.put_check-checked.result = c.in_blocks-whole.ensures in
    let few : c.put_check-checked.result ≤ 288 = omega (arith, g.met.I.Integrity.bounded.1) in
    record {
      blocks = ap (λ k. k % n) up ∙ filled n c.put_check-checked.result c.requires.block;
      short = omega (arith, up, filled_short n c.put_check-checked.result c.requires.block few);
      frame = record {
        len = sym (ap length (sym whole) ∙ length-append (front t ++ check (front t)) (replicate m 0) ∙ omega arith);
        bytes = done ∙ ap (λ zs. zs ++ drop (length zs) orig) whole;
      };
    }
