-- What opening a file makes of it.
use Rattle.std.proofs.Common.{◌≡◌, ◌∙◌, inl, inr, ℕ, ◌+◌, Bool, true, false, List, [], ◌∷◌, ◌++◌, length, take, drop, refl, sym, ap, subst, append_assoc, arith, Vec, Global}
use Rattle.std.specs.Prelude.{Result, Ok, Err, IfOk, OnOk, is_ok}
use Rattle.std.proofs.lemmas.List.{take_at, length-append}
use Rattle.bimap_journal.specs.declared.disk.Operation.TheVariants.{Found, Cut, Synced, Replaced}
use Rattle.bimap_journal.specs.Calls.{Event, KeepsFront, seen, MayLeave, LeavesOnly}
use Rattle.bimap_journal.specs.Lines.{header, closed, lines, HasLines, IsAtRest}
use Rattle.bimap_journal.specs.Reading.{HasLinesOrNone}
use Rattle.bimap_journal.proofs.Moments.{leaves_now, leaves_more}
use Rattle.bimap_journal.proofs.Groups.{front_kept}

-- A file that was found is on the disk.
pub at_found : (calls : List Event) (found : Vec ℕ Global) (end : ℕ) (texts : List (List ℕ)) → HasLines found.items texts → end ≡ length (header ++ lines texts) → IsAtRest ((Found, found) ∷ calls) end texts
at_found calls found end texts has at_end = record { has = has; at_end = at_end; durable = λ file left. left }

-- What stands behind the closing byte is cut off.
module _ (calls : List Event) (end : ℕ) (texts : List (List ℕ)) (rests : IsAtRest calls end texts) where
  base : List ℕ
  base = header ++ lines texts

  has_rest : (file rest : List ℕ) → file ≡ base ++ closed ∷ rest → HasLines file texts
  unfolding base
  has_rest file rest e = record { rest = rest; is = e; unbroken = rests.has.unbroken }

  before : (file : List ℕ) → MayLeave calls file → HasLines file texts
  unfolding base
  before file left = has_rest file rests.has.rest (rests.durable file left ∙ rests.has.is)

  module _ (x : Vec ℕ Global) where
    abbrev cut : Bool → List Event
    cut done = (Cut (end + 1) done, x) ∷ calls

    at_cut : (done : Bool) (file : List ℕ) → MayLeave (cut done) file → HasLines file texts
    unfolding base
    at_cut done file left =
        let old : left.0 ≡ base ++ closed ∷ rests.has.rest = rests.durable left.0 left.1 ∙ rests.has.is in
        let kept : KeepsFront (length base + 1) (base ++ closed ∷ rests.has.rest) file =
        subst (λ n. take n file ≡ take n (base ++ closed ∷ rests.has.rest)) (ap (λ n. n + 1) rests.at_end) (left.2 ∙ ap (take (end + 1)) old) in
        has_rest file (drop (length base + 1) file) (front_kept base rests.has.rest closed file kept)

    seen_cut : (done : Bool) → HasLines (seen (cut done)) texts
    unfolding base
    seen_cut done =
        let whole : base ++ closed ∷ rests.has.rest ≡ (base ++ closed ∷ []) ++ rests.has.rest = sym (append_assoc base (closed ∷ []) rests.has.rest) in
        let e : take (end + 1) (seen calls) ≡ base ++ closed ∷ [] =
        ap (λ n. take (n + 1) (seen calls)) rests.at_end ∙ ap (take (length base + 1)) (rests.has.is ∙ whole)
        ∙ take_at (base ++ closed ∷ []) rests.has.rest (length base + 1) (length-append base (closed ∷ [])) in
        has_rest (seen (cut done)) [] e

    module _ (y : Vec ℕ Global) where
      abbrev synced : Bool → List Event
      synced done = (Synced done, y) ∷ cut true

      at_sync : (done : Bool) (file : List ℕ) → MayLeave (synced done) file → HasLines file texts
      at_sync true file left = subst (λ f. HasLines f texts) (sym left) (seen_cut true)
      at_sync false file left = at_cut true file left

      pub repaired : IsAtRest (synced true) end texts
      repaired = record { has = seen_cut true; at_end = rests.at_end; durable = λ file left. left }

  abbrev Has : List ℕ → Type 0
  Has file = HasLines file texts

  pub any_moment_0 : LeavesOnly calls calls Has
  any_moment_0 = leaves_now Has calls before

  pub any_moment_1 : (n1 : List Event) (d1 : Bool) (x : Vec ℕ Global) → n1 ≡ cut x d1 → LeavesOnly calls n1 Has
  any_moment_1 n1 d1 x e1 = subst (λ n. LeavesOnly calls n Has) (sym e1) (leaves_more Has calls calls (Cut (end + 1) d1, x) any_moment_0 (at_cut x d1))

  module _ (n1 n2 : List Event) (d2 : Bool) (x y : Vec ℕ Global) (e1 : n1 ≡ cut x true) (e2 : n2 ≡ (Synced d2, y) ∷ n1) where
    to_2 : n2 ≡ synced x y d2
    to_2 = e2 ∙ ap (λ n. (Synced d2, y) ∷ n) e1

    pub any_moment_2 : LeavesOnly calls n2 Has
    any_moment_2 = subst (λ n. LeavesOnly calls n Has) (sym to_2) (leaves_more Has calls (cut x true) (Synced d2, y) (any_moment_1 (cut x true) true x refl) (at_sync x y d2))

    pub is_repaired : d2 ≡ true → IsAtRest n2 end texts
    is_repaired t = subst (λ n. IsAtRest n end texts) (sym (to_2 ∙ ap (synced x y) t)) (repaired x y)

-- An empty file becomes a journal without lines.
no_lines : HasLines (header ++ closed ∷ []) []
no_lines = record { rest = []; is = refl; unbroken = λ k d inside. absurd (omega (arith, inside)) }

abbrev pub HasNone : List ℕ → Type 0
HasNone = HasLinesOrNone []

pub begun_any_moment : (calls new : List Event) (found first : Vec ℕ Global) (done : Bool) → found.items ≡ [] → first.items ≡ header ++ closed ∷ [] → new ≡ (Replaced done, first) ∷ ((Found, found) ∷ calls)
    → LeavesOnly ((Found, found) ∷ calls) new HasNone
begun_any_moment calls new found first done empty is e =
    subst (λ n. LeavesOnly ((Found, found) ∷ calls) n HasNone) (sym e)
    (leaves_more HasNone ((Found, found) ∷ calls) ((Found, found) ∷ calls) (Replaced done, first) (leaves_now HasNone ((Found, found) ∷ calls) old) (at done))
  where
    old : (file : List ℕ) → MayLeave ((Found, found) ∷ calls) file → HasNone file
    old file left = inr (left ∙ empty, refl)

    whole : (file : List ℕ) → file ≡ first.items → HasNone file
    whole file left = inl (subst (λ f. HasLines f []) (sym (left ∙ is)) no_lines)

    at : (d : Bool) (file : List ℕ) → MayLeave ((Replaced d, first) ∷ ((Found, found) ∷ calls)) file → HasNone file
    at true file left = whole file left
    at false file left = elim left [ inl before ↦ old file before | inr after ↦ whole file after ]

pub begun_at_rest : (calls new : List Event) (first : Vec ℕ Global) → first.items ≡ header ++ closed ∷ [] → new ≡ (Replaced true, first) ∷ calls → IsAtRest new 19 []
begun_at_rest calls new first is e =
    subst (λ n. IsAtRest n 19 []) (sym e) (record { has = subst (λ f. HasLines f []) (sym is) no_lines; at_end = refl; durable = λ file left. left })

pub on_ok : {T E P : Type 0} (r : Result T E) → (is_ok r ≡ true → P) → OnOk r P
on_ok (Ok x) h = h refl
on_ok (Err e) h = tt

-- The same of a file that was found.
pub of_found : (P : List ℕ → Type 0) (calls older new : List Event) (found : Vec ℕ Global) → older ≡ (Found, found) ∷ calls → LeavesOnly older new P → LeavesOnly ((Found, found) ∷ calls) new P
of_found P calls older new found e leaves = subst (λ o. LeavesOnly o new P) e leaves

pub to_found : (P : List ℕ → Type 0) (calls older new : List Event) (found : Vec ℕ Global) → older ≡ (Found, found) ∷ calls → LeavesOnly ((Found, found) ∷ calls) new P → LeavesOnly older new P
to_found P calls older new found e leaves = subst (λ o. LeavesOnly o new P) (sym e) leaves

-- Nothing but the reading of an empty file was done.
pub none_any_moment : (calls : List Event) (found : Vec ℕ Global) → found.items ≡ [] → LeavesOnly ((Found, found) ∷ calls) ((Found, found) ∷ calls) HasNone
none_any_moment calls found empty = leaves_now HasNone ((Found, found) ∷ calls) (λ file left. inr (left ∙ empty, refl))

pub ok_then : {T E : Type 0} {P Q : T → Type 0} (r : Result T E) → ((x : T) → P x → Q x) → IfOk r P → IfOk r Q
ok_then (Ok x) f h = f x h
ok_then (Err e) f h = tt
