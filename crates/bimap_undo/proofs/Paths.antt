-- Records that grow and shrink at their end.
use Rattle.std.proofs.Common.{◌≡◌, inl, inr, ℕ, ◌≤◌, Bool, List, [], ◌∷◌, ◌++◌, length, drop, sym, ap, ◌∙◌, subst, arith, true≢false, length-append, ◌↔◌, take, refl}
use Rattle.std.specs.Prelude.{Contains, IsTrue}
use Rattle.std.specs.Cmp.{IsEquivalence}
use Rattle.std.proofs.lemmas.Bool.{cases_lt, cases_Bool, or_parts, or_left, or_right}
use Rattle.std.proofs.lemmas.List.{drop-append-le, take-take, take-append-le}
use Rattle.std.proofs.Math.Seq.{drop-length, drop-append_seam}
use Rattle.bimap.specs.Sets.{shares, IsApart, IsSameSet, SomeShares}
use Rattle.bimap.specs.Answer.{IsAnswer, overwrites}
use Rattle.bimap.specs.Exchange.{IsExchanged}
use Rattle.bimap.specs.Undoing.{IsInserting, IsUndone}
use Rattle.bimap.specs.declared.Overwritten.{Overwritten}
use Rattle.bimap.specs.declared.Overwritten.TheVariants.{Neither, Left, Right, Pair, Both}
use Rattle.bimap.proofs.Undoing.{named_struck, struck_named, undone_same}
use Rattle.bimap_undo.specs.declared.entry.Entry.{Entry}
use Rattle.bimap_undo.specs.declared.entry.Entry.TheVariants.{Inserted, LeftReplaced, RightReplaced, Removed}
use Rattle.bimap_undo.specs.Marks.{Marked, IsReplacing, IsChange, IsPath, IsBefore, KeepsMarks, HasMarks}
use Rattle.bimap.proofs.Removals.{removing_from_one}
use Rattle.bimap_undo.proofs.Replacing.{replacing_from_one, left_close, right_close}

module _ {X : Type 0} where
  pub same_set : (S : X → Type 0) → IsSameSet S S
  same_set S x = (λ m. m, λ m. m)

  pub same_set_back : (S T : X → Type 0) → IsSameSet S T → IsSameSet T S
  same_set_back S T h x = ((h x).1, (h x).0)

  pub same_set_through : (S T U : X → Type 0) → IsSameSet S T → IsSameSet T U → IsSameSet S U
  same_set_through S T U h k x = (λ m. (k x).0 ((h x).0 m), λ m. (h x).1 ((k x).1 m))

module _ {L R : Type 0} (same_left : L → L → Bool) (same_right : R → R → Bool) where
  -- An insertion overwrites a pair exactly if some pair shares a value with the new one.
  pub overwrites_where_shared : (S : L × R → Type 0) (new : L × R) (answer : Overwritten L R) → IsAnswer same_left same_right S new answer → IsTrue (overwrites answer) ↔ SomeShares same_left same_right S new
  overwrites_where_shared S new Neither h = (λ e. absurd (true≢false (sym e)), λ w. absurd (true≢false (sym w.2 ∙ h w.0 w.1)))
  overwrites_where_shared S new (Left l r) h = (λ e. ((l, r), h.0.member, or_left (same_left l new.0) (same_right r new.1) h.1), λ w. refl)
  overwrites_where_shared S new (Right l r) h = (λ e. ((l, r), h.0.member, or_right (same_left l new.0) (same_right r new.1) h.2), λ w. refl)
  overwrites_where_shared S new (Pair l r) h = (λ e. ((l, r), h.0.member, or_left (same_left l new.0) (same_right r new.1) h.1), λ w. refl)
  overwrites_where_shared S new (Both p q) h = (λ e. (p, h.first, or_left (same_left p.0 new.0) (same_right p.1 new.1) h.by_left), λ w. refl)

  -- An answer stays right for a list with the same members.
  answer_from : (S T : L × R → Type 0) (new : L × R) (answer : Overwritten L R) → IsSameSet S T → IsAnswer same_left same_right S new answer → IsAnswer same_left same_right T new answer
  answer_from S T new Neither s h = λ q m. h q ((s q).1 m)
  answer_from S T new (Left l r) s h = (record { member = (s (l, r)).0 h.0.member; only = λ q m. h.0.only q ((s q).1 m) }, h.1, h.2)
  answer_from S T new (Right l r) s h = (record { member = (s (l, r)).0 h.0.member; only = λ q m. h.0.only q ((s q).1 m) }, h.1, h.2)
  answer_from S T new (Pair l r) s h = (record { member = (s (l, r)).0 h.0.member; only = λ q m. h.0.only q ((s q).1 m) }, h.1, h.2)
  answer_from S T new (Both p q) s h = record {
    first = (s p).0 h.first;
    second = (s q).0 h.second;
    two = h.two;
    by_left = h.by_left;
    by_right = h.by_right;
    only = λ w m. h.only w ((s w).1 m);
  }

  -- An exchange stays one for a list with the same members.
  exchange_from : (S S' T : L × R → Type 0) (p other : L × R) → IsSameSet S S' → IsExchanged S p other T → IsExchanged S' p other T
  exchange_from S S' T p other s e = record {
    member = (s p).0 e.member;
    exchanged = λ q. (
      λ m. elim ((e.exchanged q).0 m) [ inl f ↦ inl f | inr w ↦ inr ((s q).0 w.0, w.1) ],
      λ m. (e.exchanged q).1 (elim m [ inl f ↦ inl f | inr w ↦ inr ((s q).1 w.0, w.1) ]),
    );
  }

  exchange_to : (S T T' : L × R → Type 0) (p other : L × R) → IsSameSet T T' → IsExchanged S p other T → IsExchanged S p other T'
  exchange_to S T T' p other s e = record {
    member = e.member;
    exchanged = λ q. (λ m. (e.exchanged q).0 ((s q).1 m), λ m. (s q).0 ((e.exchanged q).1 m));
  }

  replacing_from : (A A' : List (L × R)) (left : L) (before : L × R → L × R) (B : List (L × R)) → IsSameSet (Contains A) (Contains A') → IsReplacing same_left same_right A left before B → IsReplacing same_left same_right A' left before B
  replacing_from A A' left before B s i = record { pair = i.pair; by_left = i.by_left; exchanged = exchange_from (Contains A) (Contains A') (Contains B) (before i.pair) i.pair s i.exchanged }

  replacing_to : (A : List (L × R)) (left : L) (before : L × R → L × R) (B B' : List (L × R)) → IsSameSet (Contains B) (Contains B') → IsReplacing same_left same_right A left before B → IsReplacing same_left same_right A left before B'
  replacing_to A left before B B' s i = record { pair = i.pair; by_left = i.by_left; exchanged = exchange_to (Contains A) (Contains B) (Contains B') (before i.pair) i.pair s i.exchanged }

  -- A change also leads from a list with the same members, and to such a list.
  change_from : (A A' : List (L × R)) (entry : Entry L R) (B : List (L × R)) → IsSameSet (Contains A) (Contains A') → IsChange same_left same_right A entry B → IsChange same_left same_right A' entry B
  change_from A A' (Inserted left answer) B s i = record {
    pair = i.pair;
    by_left = i.by_left;
    is_answer = answer_from (Contains A) (Contains A') i.pair answer s i.is_answer;
    put = λ q. (
      λ m. elim ((i.put q).0 m) [ inl e ↦ inl e | inr w ↦ inr ((s q).0 w.0, w.1) ],
      λ m. (i.put q).1 (elim m [ inl e ↦ inl e | inr w ↦ inr ((s q).1 w.0, w.1) ]),
    );
  }
  change_from A A' (LeftReplaced left old) B s i = replacing_from A A' left (λ p. (old, p.1)) B s i
  change_from A A' (RightReplaced left old) B s i = replacing_from A A' left (λ p. (p.0, old)) B s i
  change_from A A' (Removed left right) B s i = record {
    member = (s (left, right)).0 i.member;
    without = λ q. (λ m. ((s q).0 ((i.without q).0 m).0, ((i.without q).0 m).1), λ m. (i.without q).1 ((s q).1 m.0, m.1));
  }

  change_to : (A : List (L × R)) (entry : Entry L R) (B B' : List (L × R)) → IsSameSet (Contains B) (Contains B') → IsChange same_left same_right A entry B → IsChange same_left same_right A entry B'
  change_to A (Inserted left answer) B B' s i = record {
    pair = i.pair;
    by_left = i.by_left;
    is_answer = i.is_answer;
    put = λ q. (λ m. (i.put q).0 ((s q).1 m), λ m. (s q).0 ((i.put q).1 m));
  }
  change_to A (LeftReplaced left old) B B' s i = replacing_to A left (λ p. (old, p.1)) B B' s i
  change_to A (RightReplaced left old) B B' s i = replacing_to A left (λ p. (p.0, old)) B B' s i
  change_to A (Removed left right) B B' s i = record {
    member = i.member;
    without = λ q. (λ m. (i.without q).0 ((s q).1 m), λ m. (s q).0 ((i.without q).1 m));
  }

  path_to : (A : List (L × R)) (entries : List (Entry L R)) (S T : List (L × R)) → IsPath same_left same_right A entries S → IsSameSet (Contains S) (Contains T) → IsPath same_left same_right A entries T
  path_to A [] S T h s = same_set_through (Contains A) (Contains S) (Contains T) h s
  path_to A (entry ∷ entries) S T h s = (h.0, h.1, h.2, path_to h.0 entries S T h.3 s)

  -- One more change at the end of a path.
  path_push : (A : List (L × R)) (entries : List (Entry L R)) (S : List (L × R)) (entry : Entry L R) (T : List (L × R)) → IsPath same_left same_right A entries S → IsApart same_left same_right T → IsChange same_left same_right S entry T → IsPath same_left same_right A (entries ++ entry ∷ []) T
  path_push A [] S entry T h t i = (T, t, change_from S A entry T (same_set_back (Contains A) (Contains S) h) i, same_set (Contains T))
  path_push A (first ∷ entries) S entry T h t i = (h.0, h.1, h.2, path_push h.0 entries S entry T h.3 t i)

  -- The set before the last change of a path.
  path_pop : (A : List (L × R)) (entries : List (Entry L R)) (entry : Entry L R) (T : List (L × R)) → IsApart same_left same_right A → IsPath same_left same_right A (entries ++ entry ∷ []) T → (S : List (L × R)) × IsApart same_left same_right S × IsPath same_left same_right A entries S × IsChange same_left same_right S entry T
  path_pop A [] entry T apart h = (A, apart, same_set (Contains A), change_to A entry h.0 T h.3 h.2)
  path_pop A (first ∷ entries) entry T apart h =
      let w = path_pop h.0 entries entry T h.1 h.3 in (w.0, w.1, (h.0, h.1, h.2, w.2), w.3)

  -- Marks are kept if nothing changes.
  -- If more marks are kept, the lower ones are.
  -- Two steps that keep marks keep them together.
  pub keeps_all : (u : Marked L R) (last : ℕ) → KeepsMarks same_left same_right u last u
  keeps_all u last = record { sets = λ mark within A b. b; changes = refl }

  pub keeps_below : (u v : Marked L R) (last lower : ℕ) → lower ≤ last → KeepsMarks same_left same_right u last v → KeepsMarks same_left same_right u lower v
  keeps_below u v last lower below k = record {
    sets = λ mark within A b. k.sets mark (omega arith) A b;
    changes = sym (take-take lower last v.entries below) ∙ ap (take lower) k.changes ∙ take-take lower last u.entries below;
  }

  pub keeps_through : (u v w : Marked L R) (last : ℕ) → KeepsMarks same_left same_right u last v → KeepsMarks same_left same_right v last w → KeepsMarks same_left same_right u last w
  keeps_through u v w last k l = record { sets = λ mark within A b. l.sets mark within A (k.sets mark within A b); changes = l.changes ∙ k.changes }

  -- The last mark stands for the contained pairs.
  pub held_before_last : (u : Marked L R) (mark : ℕ) → mark ≡ length u.entries → IsApart same_left same_right u.held.pairs → IsBefore same_left same_right u mark u.held.pairs
  held_before_last u mark last apart = record {
    apart = apart;
    path = subst (λ entries. IsPath same_left same_right u.held.pairs entries u.held.pairs) (sym (ap (λ n. drop n u.entries) last ∙ drop-length u.entries)) (same_set (Contains u.held.pairs));
  }

  pub last_is_held : (u : Marked L R) (A : List (L × R)) → IsBefore same_left same_right u (length u.entries) A → IsSameSet (Contains A) (Contains u.held.pairs)
  last_is_held u A b = subst (λ entries. IsPath same_left same_right A entries u.held.pairs) (drop-length u.entries) b.path

  -- A map with nothing recorded has the mark of its contained pairs.
  pub no_marks : (u : Marked L R) → u.entries ≡ [] → IsApart same_left same_right u.held.pairs → length u.held.pairs ≤ u.held.room → HasMarks same_left same_right u
  no_marks u none apart fits mark within = (u.held.pairs, held_before_last u mark (omega (arith, within, ap length none)) apart, fits)

  module _ (u v : Marked L R) (entry : Entry L R) (grown : v.entries ≡ u.entries ++ entry ∷ []) (apart : IsApart same_left same_right v.held.pairs) (change : IsChange same_left same_right u.held.pairs entry v.held.pairs) where
    -- A recorded change keeps the sets for which the marks stand.
    pub keeps_push : KeepsMarks same_left same_right u (length u.entries) v
    keeps_push = record {
      sets = λ mark within A b. record {
        apart = b.apart;
        path = subst (λ entries. IsPath same_left same_right A entries v.held.pairs) (sym (ap (drop mark) grown ∙ drop-append-le mark u.entries (entry ∷ []) within)) (path_push A (drop mark u.entries) u.held.pairs entry v.held.pairs b.path apart change);
      };
      changes = ap (take (length u.entries)) grown ∙ take-append-le (length u.entries) u.entries (entry ∷ []) (omega arith);
    }

    pub marks_push : HasMarks same_left same_right u → u.held.room ≤ v.held.room → length v.held.pairs ≤ v.held.room → HasMarks same_left same_right v
    marks_push marks rooms fits mark within =
        elim (cases_lt (length u.entries) mark) [
          | inl past ↦
              let last : mark ≡ length v.entries = omega (arith, within, past, ap length grown, length-append u.entries (entry ∷ [])) in
              (v.held.pairs, held_before_last v mark last apart, fits)
          | inr old ↦
              let w = marks mark (omega (arith, old)) in
              (w.0, keeps_push.sets mark (omega (arith, old)) w.0 w.1, omega (arith, w.2, rooms))
        ]

module _ {L R : Type 0} (same_left : L → L → Bool) (same_right : R → R → Bool) (lefts : IsEquivalence same_left) (rights : IsEquivalence same_right) where
  -- A record without its last change.
  module _ (u v : Marked L R) (entry : Entry L R) (shrunk : u.entries ≡ v.entries ++ entry ∷ []) (back : (A : List (L × R)) → IsApart same_left same_right A → IsChange same_left same_right A entry u.held.pairs → IsSameSet (Contains A) (Contains v.held.pairs)) where
    pub keeps_pop : KeepsMarks same_left same_right u (length v.entries) v
    keeps_pop = record {
      sets = λ mark within A b.
          let w = path_pop same_left same_right A (drop mark v.entries) entry u.held.pairs b.apart (subst (λ entries. IsPath same_left same_right A entries u.held.pairs) (ap (drop mark) shrunk ∙ drop-append-le mark v.entries (entry ∷ []) within) b.path) in
          record { apart = b.apart; path = path_to same_left same_right A (drop mark v.entries) w.0 v.held.pairs w.2 (back w.0 w.1 w.3) };
      changes = sym (ap (take (length v.entries)) shrunk ∙ take-append-le (length v.entries) v.entries (entry ∷ []) (omega arith));
    }

    pub marks_pop : HasMarks same_left same_right u → v.held.room ≡ u.held.room → HasMarks same_left same_right v
    marks_pop marks rooms mark within =
        let w = marks mark (omega (arith, ap length shrunk, length-append v.entries (entry ∷ []))) in
        (w.0, keeps_pop.sets mark within w.0 w.1, omega (arith, w.2, rooms))

  -- The set before the last change, for which the room suffices.
  pub before_last : (u : Marked L R) (front : List (Entry L R)) (entry : Entry L R) → u.entries ≡ front ++ entry ∷ [] → HasMarks same_left same_right u → (A : List (L × R)) × IsApart same_left same_right A × (length A ≤ u.held.room) × IsChange same_left same_right A entry u.held.pairs
  before_last u front entry shrunk marks =
      let w = marks (length front) (omega (arith, ap length shrunk, length-append front (entry ∷ []))) in
      let one = subst (λ entries. IsPath same_left same_right w.0 entries u.held.pairs) (ap (drop (length front)) shrunk ∙ drop-append_seam front (entry ∷ [])) w.1.path in
      (w.0, w.1.apart, w.2, change_to same_left same_right w.0 entry one.0 u.held.pairs one.3 one.2)

  -- An insertion leads from the set that its undoing leaves.
  undone_before : (A B : List (L × R)) (left : L) (answer : Overwritten L R) → IsInserting same_left same_right A left answer B → IsUndone same_left same_right (Contains B) left answer (Contains A)
  undone_before A B left answer i q = (
    λ m. elim (cases_Bool (shares same_left same_right q i.pair)) [
      | inl s ↦ inl (struck_named same_left same_right lefts rights (Contains A) i.pair answer q i.is_answer m s)
      | inr s ↦ inr ((i.put q).1 (inr (m, s)), lefts.symm q.0 left ∙ sym (lefts.congr i.pair.0 left q.0 i.by_left) ∙ lefts.symm i.pair.0 q.0 ∙ (or_parts (same_left q.0 i.pair.0) (same_right q.1 i.pair.1) s).0)
    ],
    λ m. elim m [
      | inl o ↦ (named_struck same_left same_right lefts rights (Contains A) i.pair answer q i.is_answer o).0
      | inr w ↦
          elim ((i.put q).0 w.0) [
            | inl v ↦ absurd (true≢false (sym i.by_left ∙ ap (λ (z : L × R). same_left z.0 left) (sym v) ∙ w.1))
            | inr v ↦ v.0
          ]
    ],
  )

  -- A change leads to a set from one set alone.
  change_from_one : (A A' : List (L × R)) (entry : Entry L R) (B : List (L × R)) → IsApart same_left same_right A → IsApart same_left same_right A' → IsApart same_left same_right B → IsChange same_left same_right A entry B → IsChange same_left same_right A' entry B → IsSameSet (Contains A) (Contains A')
  change_from_one A A' (LeftReplaced left old) B apart apart' after i j = replacing_from_one same_left same_right lefts rights A A' B left (λ p. (old, p.1)) (left_close same_left same_right lefts rights old) apart apart' after i j
  change_from_one A A' (RightReplaced left old) B apart apart' after i j = replacing_from_one same_left same_right lefts rights A A' B left (λ p. (p.0, old)) (right_close same_left same_right lefts rights old) apart apart' after i j
  change_from_one A A' (Inserted left answer) B apart apart' after i j = undone_same same_left same_right lefts rights A B left answer apart i (Contains A') (undone_before A' B left answer j)
  change_from_one A A' (Removed left right) B apart apart' after i j = removing_from_one same_left same_right lefts rights A A' (left, right) B apart apart' i j

  -- A path leads to a set from one set alone.
  pub path_from_one : (A A' : List (L × R)) (entries : List (Entry L R)) (S : List (L × R)) → IsApart same_left same_right A → IsApart same_left same_right A' → IsPath same_left same_right A entries S → IsPath same_left same_right A' entries S → IsSameSet (Contains A) (Contains A')
  path_from_one A A' [] S apart apart' i j = same_set_through (Contains A) (Contains S) (Contains A') i (same_set_back (Contains A') (Contains S) j)
  path_from_one A A' (entry ∷ entries) S apart apart' i j = change_from_one A A' entry j.0 apart apart' j.1 (change_to same_left same_right A entry i.0 j.0 (path_from_one i.0 j.0 entries S i.1 j.1 i.3 j.3) i.2) j.2
