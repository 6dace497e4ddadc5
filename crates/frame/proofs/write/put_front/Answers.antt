use Rattle.std.proofs.Common.{◌≡◌, ℕ, List, [], ◌∷◌, ◌++◌, length, drop, sym, refl, ap, ◌∙◌, arith, length-append}
use Rattle.std.proofs.lemmas.List.{append_assoc}
use Rattle.byte_lists.specs.Numbers.{octets}
use Rattle.byte_lists.proofs.Digits.{octets_two, octets_eight}
use Rattle.byte_lists.proofs.Written.{put_more}
use Rattle.frame.specs.Frame.{front}
use Rattle.sealing.specs.Sealing.{text}
use Rattle.sealing.specs.Suites.{direction_byte}
use Rattle.frame.proofs.write.put_front.Goals as goal

pub returns : goal.returns
returns c =
    let orig : List ℕ = c.args.out.now in
    let body : List ℕ = c.args.body.now in
    let d : ℕ = c.from.result in
    let o : List ℕ = c.to_be_bytes.result in
    let e : List ℕ = c.to_be_bytes-2.result in
    let is-o : o ≡ octets 8 c.args.number = c.to_be_bytes.ensures ∙ sym (octets_eight c.args.number) in
    let is-e : e ≡ octets 2 (length body) = c.to_be_bytes-2.ensures ∙ sym (octets_two (length body)) in
    let long-o : length o ≡ 8 = ap length c.to_be_bytes.ensures in
    let long-e : length e ≡ 2 = ap length c.to_be_bytes-2.ensures in
    let put-d = put_more orig [] (d ∷ []) orig c.put.new.buffer 0 refl refl c.put.ensures in
    let put-o = put_more orig (d ∷ []) o c.put.new.buffer c.put-2.new.buffer 1 refl put-d c.put-2.ensures in
    let put-e = put_more orig ((d ∷ []) ++ o) e c.put-2.new.buffer c.put-3.new.buffer 9 (simp length-append (omega arith)) put-o c.put-3.ensures in
    let put-body =
    put_more orig (((d ∷ []) ++ o) ++ e) body c.put-3.new.buffer c.put-4.new.buffer 11 (simp length-append (omega arith)) put-e c.put-4.ensures in
    let whole : (((d ∷ []) ++ o) ++ e) ++ body ≡ front (text c.args.direction c.args.number body) =
    append_assoc ((d ∷ []) ++ o) e body ∙ append_assoc (d ∷ []) o (e ++ body)
    ∙ ap (λ x. x ∷ (o ++ (e ++ body))) c.from.ensures
    ∙ ap (λ x. direction_byte c.args.direction ∷ (x ++ (e ++ body))) is-o
    ∙ ap (λ x. direction_byte c.args.direction ∷ (octets 8 c.args.number ++ (x ++ body))) is-e in
    record { end = refl; bytes = put-body ∙ ap (λ zs. zs ++ drop (length zs) orig) whole }
