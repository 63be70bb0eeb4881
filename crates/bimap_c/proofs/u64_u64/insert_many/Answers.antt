use Rattle.std.proofs.Common.{rules, ◌≡◌, ◌∙◌, ◌<◌, ℕ, Option, Some, None, List, [], ◌∷◌, inl, inr, refl, sym, ap, subst, map, length, arith}
use Rattle.std.specs.Iterator.{AlwaysYields, YieldsThen}
use Rattle.std.proofs.lemmas.List.{length-map}
use Rattle.std.proofs.lemmas.Iterator.{YieldsList, YieldsList-from_map, YieldsList-from_slice}
use Rattle.bimap_c.specs.U64U64.{pair, gives_first}
use Rattle.bimap_c.proofs.u64_u64.insert_many.Goals as goal

abbrev ListYields : List (ℕ × ℕ) → List (ℕ × ℕ) → Option (ℕ × ℕ) → Type 0
ListYields all items answer = (later : List (ℕ × ℕ)) × YieldsThen gives_first all items answer later

module _ {S : Type 0} (steps : S → Option (ℕ × ℕ) → S → Type 0) where
  next : (s t : S) (left : List (ℕ × ℕ)) (answer : Option (ℕ × ℕ)) → AlwaysYields steps (λ p. p) s left → steps s answer t → (later : List (ℕ × ℕ)) × gives_first left answer later
  next s t [] None gives step = ([], (refl, refl))
  next s t [] (Some x) gives step = absurd (gives x t step)
  next s t (p ∷ left) None gives step = absurd (gives.0 t step)
  next s t (p ∷ left) (Some x) gives step = (left, ap (λ q. q ∷ left) (sym (gives.1 x t step).0))

  steps_along : (s u : S) (all items : List (ℕ × ℕ)) (answer : Option (ℕ × ℕ)) → AlwaysYields steps (λ p. p) s all → YieldsThen steps s items answer u → ListYields all items answer
  steps_along s u all [] answer gives calls =
      let last = next s u all answer gives (subst (λ w. steps w answer u) (sym calls.1) calls.2) in
      (last.0, (all, refl, last.1))
  steps_along s u [] (x ∷ items) answer gives calls = absurd (gives x calls.1.0 calls.1.1)
  steps_along s u (p ∷ all) (x ∷ items) answer gives calls =
      let first = gives.1 x calls.1.0 calls.1.1 in
      let others = steps_along calls.1.0 u all items answer first.1 (calls.0, calls.1.2, calls.2) in
      (others.0, (others.1.0, (all, ap (λ q. q ∷ all) (sym first.0), others.1.1), others.1.2))

-- Let the calls of an iterator give some items. A list of all items that it gives would have given the same.
of_list : {S : Type 0} {steps : S → Option (ℕ × ℕ) → S → Type 0} (s u : S) (all items : List (ℕ × ℕ)) (answer : Option (ℕ × ℕ)) → YieldsThen steps s items answer u → YieldsList steps (λ p. p) s all → ListYields all items answer
of_list {steps = steps} s u all items answer calls chain = steps_along steps s u all items answer chain.runs calls

shorter : (all items later : List (ℕ × ℕ)) (x : ℕ × ℕ) → YieldsThen gives_first all items (Some x) later → length items < length all
shorter all [] later x calls = omega (arith, ap length (calls.1 ∙ calls.2))
shorter all (p ∷ items) later x calls = omega (arith, ap length calls.1.1, shorter calls.1.0 items later x (calls.0, calls.1.2, calls.2))

pub returns-in-Ok : goal.returns-in-Ok
returns-in-Ok g c =
    let rows = c.args.pairs.now in
    let e = c.in-Ok.ensures.extended in
    let all = of_list e.iterator e.all.0 (map pair rows) e.items None e.all.1 (YieldsList-from_map _ pair (YieldsList-from_slice rows (cc)) (cc) (λ x r q k. search rules)) in
    inl (refl, refl, record { iterator = map pair rows; items = e.items; given = refl; all = all; survivors = e.survivors; room = e.room })

pub returns-in-Err : goal.returns-in-Err
returns-in-Err g c =
    let rows = c.args.pairs.now in
    let stopped = c.in-Err.stopped in
    let e = c.in-Err.ensures.stopped in
    let n = e.refused.is_next in
    let calls = of_list n.iterator n.rest (map pair rows) e.items (Some (stopped.left, stopped.right)) n.next_item (YieldsList-from_map _ pair (YieldsList-from_slice rows (cc)) (cc) (λ x r q k. search rules)) in
    let within = shorter (map pair rows) e.items calls.0 (stopped.left, stopped.right) calls.1 in
    let count : stopped.taken ≡ length e.items = omega (arith, n.counted, within, length-map rows pair, c.iter.ensures.bound, c.iter.ensures.rest) in
    inr (
      refl,
      stopped,
      record {
        items = e.items;
        refused = record { is_next = record { iterator = map pair rows; rest = calls.0; given = refl; next_item = calls.1; counted = n.counted }; strikes_none = e.refused.strikes_none };
        survivors = e.survivors;
        out_of_places = e.out_of_places;
        room = e.room;
      },
      count,
    )
