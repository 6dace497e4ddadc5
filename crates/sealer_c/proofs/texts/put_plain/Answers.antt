use Rattle.std.proofs.Common.{◌≡◌, ℕ, List, [], ◌∷◌, ◌++◌, length, drop, sym, refl, ap, ◌∙◌, arith, length-append}
use Rattle.std.proofs.lemmas.List.{append_assoc}
use Rattle.byte_lists.specs.Numbers.{octets}
use Rattle.byte_lists.proofs.Digits.{octets_eight}
use Rattle.byte_lists.proofs.Written.{put_more}
use Rattle.sealing.specs.Lent.{as_text}
use Rattle.sealing.specs.Suites.{direction_byte}
use Rattle.sealer_c.specs.Calls.{plain}
use Rattle.sealer_c.proofs.texts.put_plain.Goals as goal

pub returns-clause-bytes : goal.returns-clause-bytes
returns-clause-bytes c =
    let orig : List ℕ = c.args.out.now in
    let body : List ℕ = c.args.text.body.now in
    let d : ℕ = c.from.result in
    let o : List ℕ = c.to_be_bytes.result in
    let is-o : o ≡ octets 8 c.args.text.number = c.to_be_bytes.ensures ∙ sym (octets_eight c.args.text.number) in
    let long-o : length o ≡ 8 = ap length c.to_be_bytes.ensures in
    let put-d = put_more orig [] (d ∷ []) orig c.put.new.buffer 0 refl refl c.put.ensures in
    let put-o = put_more orig (d ∷ []) o c.put.new.buffer c.put-2.new.buffer 1 refl put-d c.put-2.ensures in
    let put-body = put_more orig ((d ∷ []) ++ o) body c.put-2.new.buffer c.put-3.new.buffer 9 (simp length-append (omega arith)) put-o c.put-3.ensures in
    let whole : ((d ∷ []) ++ o) ++ body ≡ plain (as_text c.args.text) =
    append_assoc (d ∷ []) o body
    ∙ ap (λ x. x ∷ (o ++ body)) c.from.ensures
    ∙ ap (λ x. direction_byte c.args.text.direction ∷ (x ++ body)) is-o in
    put-body ∙ ap (λ zs. zs ++ drop (length zs) orig) whole
