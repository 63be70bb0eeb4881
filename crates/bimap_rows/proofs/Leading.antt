-- A history of the program that grows by one entry, and the history of one call.
use Rattle.std.proofs.Common.{◌≡◌, ◌≢◌, inl, inr, ℕ, List, [], ◌∷◌, ◌++◌, Bool, false, refl, sym, subst, arith, nat_eq}
use Rattle.std.specs.Prelude.{Contains}
use Rattle.std.proofs.lemmas.List.Elements.{Contains-append_cases, Contains-append_right, Contains-push_cases}
use Rattle.bimap.specs.Holding.{Holding}
use Rattle.bimap.specs.Sets.{IsApart}
use Rattle.bimap.proofs.Members.{none_in, head_in}
use Rattle.bimap.proofs.Survivors.{not_split, Survives_none}
use Rattle.bimap.specs.declared.call.Reply.{Reply}
use Rattle.bimap.specs.declared.call.Call.TheVariants.{Insert, InsertNoOverwrite, InsertWith, RemoveByLeft, RemoveByRight, Retain, Clear}
use Rattle.bimap.specs.declared.call.Reply.TheVariants.{Inserted, NoRoom, Put}
use Rattle.bimap.specs.History.{Puts, Touches, IsNoRoom, IsRight, IsHistory}
use Rattle.bimap.specs.Step.{IsStep}
use Rattle.bimap.proofs.Histories.{IsHistory_append, IsHistory_one}
use Rattle.bimap_rows.specs.Lines.{Request}
use Rattle.bimap_rows.specs.Serving.{Answered, NoTest, LeadsTo}

-- A `Holding` of these pairs. Its capacity is 0, since nothing here depends on it.
abbrev holding : List (ℕ × ℕ) → Holding ℕ ℕ
holding pairs = record { pairs = pairs; room = 0 }

entry_in : (before later : List Answered) (e : Answered) → Contains (before ++ e ∷ later) e
entry_in before later e = Contains-append_right before (e ∷ later) e (head_in e later)

as_history : (old : List (ℕ × ℕ)) (history : List Answered) (new : List (ℕ × ℕ)) → LeadsTo old history new → IsHistory nat_eq nat_eq NoTest (holding old) history (holding new)
as_history old history new h = record {
  legal = h.legal;
  survivors = h.survivors;
  needs_room = λ before e later q n. absurd (h.has_room e (subst (λ l. Contains l e) (sym q) (entry_in before later e)) n);
  not_lower = omega arith;
  room = inl refl;
}

pub LeadsTo_push : (old : List (ℕ × ℕ)) (history : List Answered) (pairs : List (ℕ × ℕ)) (e : Answered) (new : List (ℕ × ℕ)) → LeadsTo old history pairs → LeadsTo pairs (e ∷ []) new → LeadsTo old (history ++ e ∷ []) new
LeadsTo_push old history pairs e new one two =
    let both = IsHistory_append nat_eq nat_eq NoTest (holding old) (holding pairs) (holding new) history (e ∷ []) (as_history old history pairs one) (as_history pairs (e ∷ []) new two) in
    record {
      legal = both.legal;
      survivors = both.survivors;
      has_room = λ f m. elim (Contains-append_cases history (e ∷ []) f m) [ inl w ↦ one.has_room f w | inr w ↦ two.has_room f w ];
    }

pub LeadsTo_none : (pairs : List (ℕ × ℕ)) → pairs ≡ [] → LeadsTo [] [] pairs
LeadsTo_none pairs e = subst (LeadsTo [] []) (sym e) (record {
  legal = λ before f later q. not_split before later f q;
  survivors = Survives_none Puts (Touches nat_eq nat_eq NoTest) (Contains []);
  has_room = λ f m. none_in f m;
})

-- Let `Other` refuse every pair that `Test` refuses. Then a call that touches a pair with `Test` also touches it with
-- `Other`.
module _ (Test Other : Unit {0} → ℕ × ℕ → Bool → Type 0) (refused : (key : Unit {0}) (p : ℕ × ℕ) → Test key p false → Other key p false) where
  touches : (e : Answered) (p : ℕ × ℕ) → Touches nat_eq nat_eq Test e p → Touches nat_eq nat_eq Other e p
  touches (Insert l r, Inserted a) p t = t
  touches (InsertNoOverwrite l r, Put) p t = t
  touches (InsertWith l r policy, Inserted a) p t = t
  touches (RemoveByLeft l, reply) p t = t
  touches (RemoveByRight r, reply) p t = t
  touches (Retain key, reply) p t = refused key p t
  touches (Clear, reply) p t = t
  touches (call, reply) p t = absurd t

-- A reply other than `NoRoom` does not say "out of memory".
found_room : (call : Request) (reply : Reply ℕ ℕ) → ((l r : ℕ) → reply ≢ NoRoom l r) → IsNoRoom (call, reply) → ⊥
found_room call (NoRoom l r) other n = other l r refl
found_room call reply other n = n

-- One call that did not run out of memory, with a test that refuses no pair.
module _ (Test : Unit {0} → ℕ × ℕ → Bool → Type 0) (old new : List (ℕ × ℕ)) (call : Request) (reply : Reply ℕ ℕ) (apart : IsApart nat_eq nat_eq old)
    (right : IsRight nat_eq nat_eq (Contains old) (call, reply)) (step : IsStep nat_eq nat_eq Test (Contains old) (call, reply) (Contains new))
    (keeps : (key : Unit {0}) (p : ℕ × ℕ) → Test key p false → ⊥) (other : (l r : ℕ) → reply ≢ NoRoom l r) where
  step_untested : IsStep nat_eq nat_eq NoTest (Contains old) (call, reply) (Contains new)
  step_untested p = (
    λ m. elim ((step p).0 m) [ inl w ↦ inl w | inr s ↦ inr (s.0, λ t. s.1 (touches NoTest Test (λ key q n. absurd n) (call, reply) p t)) ],
    λ m. (step p).1 (elim m [ inl w ↦ inl w | inr s ↦ inr (s.0, λ t. s.1 (touches Test NoTest keeps (call, reply) p t)) ]),
  )

  pub LeadsTo_one : LeadsTo old ((call, reply) ∷ []) new
  LeadsTo_one =
      let room = found_room call reply other in
      let one = IsHistory_one nat_eq nat_eq NoTest (holding old) (holding new) (call, reply) right step_untested (λ n. absurd (room n)) apart (omega arith) (inl refl) in
      record {
        legal = one.legal;
        survivors = one.survivors;
        has_room = λ e m n. elim (Contains-push_cases [] (call, reply) e m) [ inl k ↦ none_in e k | inr k ↦ room (subst IsNoRoom (sym k) n) ];
      }
