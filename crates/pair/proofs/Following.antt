-- One card's loop over the calls.
use Rattle.std.proofs.Common.{◌≡◌, ℕ, ◌+◌, ◌<◌, ◌≤◌, List, [], ◌∷◌, ◌++◌, map, length, get_or, take, drop, sym, refl, ap, ◌∙◌, subst, append_assoc, append-nil, add-one, arith, length-append, drop_of_length-le, length-take, take_all, drop-cons}
use Rattle.std.proofs.lemmas.List.{take_more}
use Rattle.sealing.specs.Sealing.{Sealing}
use Rattle.application.specs.Acts.{Acts}
use Rattle.law.specs.Hashes.{keyed}
use Rattle.law.specs.Calls.{Entry}
use Rattle.law.specs.Step as step
use Rattle.law.specs.Step.{State}
use Rattle.law.specs.Run.{run, left_by}
use Rattle.card.specs.View.{outcome}
use Rattle.pair.specs.declared.calls.Call.{Call}
use Rattle.pair.specs.declared.calls.Done.{Done}
use Rattle.pair.specs.View.{call_of, done_answer, entries}
use Rattle.pair.specs.Lent.{Lent, AllLent}
use Rattle.pair.specs.Followed.{Followed}

-- One more call, at the end.
entries_more : (cs : List Call) (ds : List Done) (c : Call) (d : Done) → length cs ≡ length ds
    → entries (cs ++ (c ∷ [])) (ds ++ (d ∷ [])) ≡ entries cs ds ++ (record { call = call_of c; answer = done_answer d } ∷ [])
entries_more [] [] c d h = refl
entries_more [] (e ∷ ds) c d h = absurd (omega arith)
entries_more (b ∷ cs) [] c d h = absurd (omega arith)
entries_more (b ∷ cs) (e ∷ ds) c d h =
    let k : length cs ≡ length ds = omega arith in
    ap (λ (t : List Entry). record { call = call_of b; answer = done_answer e } ∷ t) (entries_more cs ds c d k)

lent_more : (fill : ℕ) (cs : List Call) (ds : List Done) (c : Call) (d : Done) → AllLent fill cs ds → Lent fill c d
    → AllLent fill (cs ++ (c ∷ [])) (ds ++ (d ∷ []))
lent_more fill [] [] c d all one = (one, tt)
lent_more fill [] (e ∷ ds) c d all one = absurd all
lent_more fill (b ∷ cs) [] c d all one = absurd all
lent_more fill (b ∷ cs) (e ∷ ds) c d all one = (all.0, lent_more fill cs ds c d all.1 one)

module _ (𝓢 : Sealing) {M : Type 0} (𝓐 : Acts M) (fill : ℕ) (first : State M) (cs : List Call) where
  -- After i calls: those that are left lead to the same entries and the same card.
  pub record Following (i : ℕ) (ds : List Done) (s : State M) : Type 0 where
    pub count : length ds ≡ i
    pub so_far : entries (take i cs) ds ++ run keyed 𝓢 𝓐 s (map call_of (drop i cs)) ≡ run keyed 𝓢 𝓐 first (map call_of cs)
    pub ends : left_by keyed 𝓢 𝓐 s (map call_of (drop i cs)) ≡ left_by keyed 𝓢 𝓐 first (map call_of cs)
    pub memory : AllLent fill (take i cs) ds

  pub begins : Following 0 [] first
  begins = record { count = refl; so_far = refl; ends = refl; memory = tt }

  pub goes_on : (i : ℕ) (ds : List Done) (s s' : State M) (none : Call) (d : Done) → i < length cs
      → step.step keyed 𝓢 𝓐 s (call_of (get_or cs i none)) ≡ outcome s' (done_answer d) → Lent fill (get_or cs i none) d
      → Following i ds s → Following (i + 1) (ds ++ (d ∷ [])) s'
  goes_on i ds s s' none d lt said lent f =
      let x : Call = get_or cs i none in
      let rest : List Call = drop (i + 1) cs in
      let z : Entry = record { call = call_of x; answer = done_answer d } in
      let cut : drop i cs ≡ x ∷ rest = drop-cons cs i none lt ∙ ap (λ (k : ℕ). x ∷ drop k cs) (sym (add-one i)) in
      let ran : run keyed 𝓢 𝓐 s (map call_of (drop i cs)) ≡ z ∷ run keyed 𝓢 𝓐 s' (map call_of rest) =
      ap (λ (ys : List Call). run keyed 𝓢 𝓐 s (map call_of ys)) cut
      ∙ ap (λ (n : step.Done M). record { call = call_of x; answer = n.answer } ∷ run keyed 𝓢 𝓐 n.after (map call_of rest)) said in
      let left : left_by keyed 𝓢 𝓐 s (map call_of (drop i cs)) ≡ left_by keyed 𝓢 𝓐 s' (map call_of rest) =
      ap (λ (ys : List Call). left_by keyed 𝓢 𝓐 s (map call_of ys)) cut
      ∙ ap (λ (n : step.Done M). left_by keyed 𝓢 𝓐 n.after (map call_of rest)) said in
      let more : take (i + 1) cs ≡ take i cs ++ (x ∷ []) = take_more cs i none lt in
      let counted = f.count in
      let lens : length (take i cs) ≡ length ds = omega (arith, length-take i cs) in
      record {
        count = omega (arith, length-append ds (d ∷ []));
        so_far =
            ap (λ (w : List Entry). w ++ run keyed 𝓢 𝓐 s' (map call_of rest)) (ap (λ (ys : List Call). entries ys (ds ++ (d ∷ []))) more ∙ entries_more (take i cs) ds x d lens)
            ∙ append_assoc (entries (take i cs) ds) (z ∷ []) (run keyed 𝓢 𝓐 s' (map call_of rest))
            ∙ ap (λ (w : List Entry). entries (take i cs) ds ++ w) (sym ran)
            ∙ f.so_far;
        ends = sym left ∙ f.ends;
        memory = subst (λ (ys : List Call). AllLent fill ys (ds ++ (d ∷ []))) (sym more) (lent_more fill (take i cs) ds x d f.memory lent);
      }

  -- At the end.
  pub followed : (i : ℕ) (ds : List Done) (s : State M) → length cs ≤ i → Following i ds s → Followed 𝓢 𝓐 fill first cs ds s
  followed i ds s h f =
      let all : take i cs ≡ cs = take_all i cs h in
      let none : drop i cs ≡ [] = drop_of_length-le cs h in
      record {
        answers =
            ap (λ (ys : List Call). entries ys ds) (sym all)
            ∙ sym (append-nil (entries (take i cs) ds))
            ∙ ap (λ (ys : List Call). entries (take i cs) ds ++ run keyed 𝓢 𝓐 s (map call_of ys)) (sym none)
            ∙ f.so_far;
        state = ap (λ (ys : List Call). left_by keyed 𝓢 𝓐 s (map call_of ys)) (sym none) ∙ f.ends;
        memory = subst (λ (ys : List Call). AllLent fill ys ds) all f.memory;
      }
