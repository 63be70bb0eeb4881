-- A pair that is removed, and pairs that are put back for it.
use Rattle.std.proofs.Common.{◌≡◌, ◌∙◌, ℕ, inl, inr, Bool, false, Some, refl, sym, ap, subst, true≢false, arith, Contains}
use Rattle.std.specs.Prelude.{Ok}
use Rattle.std.specs.Cmp.{IsEquivalence}
use Rattle.std.proofs.lemmas.Bool.{false_from_ne_true}
use Rattle.bimap_base.specs.Answer.{IsNamed}
use Rattle.bimap_base.specs.Holding.{Holding, IsRemovalByLeft, IsRoomAfter, IsUndoing}
use Rattle.bimap_base.specs.Sets.{shares, NoneShares}
use Rattle.bimap_base.specs.Undoing.{AreNamedApart, IsUndoable}
use Rattle.bimap_base.specs.declared.overwritten.Overwritten.{Overwritten}
use Rattle.bimap_base.specs.declared.overwritten.Overwritten.TheVariants.{Both}
use Rattle.bimap_base.proofs.Apart.{shares_symm}
use Rattle.bimap_any.proofs.Fits.{NamesOne}
use Rattle.bimap_base.proofs.Room.{room_made, room_stays}
use Rattle.bimap_any.specs.Added.{IsAdded}

module _ {L R : Type 0} {same_left : L → L → Bool} {same_right : R → R → Bool} {old mid : Holding L R} {left : L} {taken : L × R} (removal : IsRemovalByLeft same_left old left (Some taken) mid) where
  -- One pair is put back.
  pub one_back : {answer : Overwritten L R} {p : L × R} {new : Holding L R} → NamesOne answer p → IsAdded mid p new → IsUndoing same_left same_right old left answer (Ok taken) new
  one_back {answer} one added = record {
    taken = removal.removed;
    undone = λ q. (
      λ c. elim ((added.put q).0 c) [ inl e ↦ inl (subst (IsNamed answer) (sym e) one.is) | inr d ↦ inr ((removal.without q).0 d) ],
      λ c. (added.put q).1 (elim c [ inl n ↦ inl (one.only q n) | inr d ↦ inr ((removal.without q).1 d) ]),
    );
    count = omega (arith, one.one, removal.count, added.count);
    handed_back = tt;
    both = tt;
    full = tt;
    unchanged = tt;
    room = room_stays _ _ _ (added.room ∙ removal.room);
  }

  module _ (lefts : IsEquivalence same_left) (rights : IsEquivalence same_right) {answer : Overwritten L R} (may : IsUndoable same_left same_right (Contains old.pairs) left answer) where
    -- A pair of the answer shares no value with the remaining pairs.
    pub named_free : (p : L × R) → IsNamed answer p → NoneShares same_left same_right (Contains mid.pairs) p
    named_free p n q m = false_from_ne_true (shares same_left same_right q p) (λ e.
        let w = (removal.without q).0 m in
        true≢false (sym may.by_left ∙ ap (λ (z : L × R). same_left z.0 left) (sym (may.alone p q n w.0 (shares_symm same_left same_right lefts rights p q ∙ e))) ∙ w.1))

    -- The second pair shares no value with the first one.
    pub second_free : (p s : L × R) {more : Holding L R} → answer ≡ Both p s → IsAdded mid p more → NoneShares same_left same_right (Contains more.pairs) s
    second_free p s is added q m = elim ((added.put q).0 m) [
      | inl e ↦ subst (λ z. shares same_left same_right z s ≡ false) (sym e) (subst (AreNamedApart same_left same_right) is may.two)
      | inr d ↦ named_free s (subst (λ a. IsNamed a s) (sym is) (inr refl)) q d
    ]

-- Two pairs are put back, after room was made.
pub two_back : {L R : Type 0} {same_left : L → L → Bool} {same_right : R → R → Bool} (old : Holding L R) {room : ℕ} {mid more new : Holding L R} {left : L} {taken p s : L × R} → IsRoomAfter old ⊥ (record { pairs = old.pairs; room = room }) → IsRemovalByLeft same_left (record { pairs = old.pairs; room = room }) left (Some taken) mid → IsAdded mid p more → IsAdded more s new → IsUndoing same_left same_right old left (Both p s) (Ok taken) new
two_back old {room} {new = new} made removal first second = record {
  taken = removal.removed;
  undone = λ q. (
    λ c. elim ((second.put q).0 c) [
      | inl e ↦ inl (inr e)
      | inr d ↦ elim ((first.put q).0 d) [ inl e ↦ inl (inl e) | inr f ↦ inr ((removal.without q).0 f) ]
    ],
    λ c. (second.put q).1 (elim c [
      | inl n ↦ elim n [ inl e ↦ inr ((first.put q).1 (inl e)) | inr e ↦ inl e ]
      | inr d ↦ inr ((first.put q).1 (inr ((removal.without q).1 d)))
    ]),
  );
  count = omega (arith, removal.count, first.count, second.count);
  handed_back = tt;
  both = tt;
  full = tt;
  unchanged = tt;
  room = room_made old (record { pairs = old.pairs; room = room }) new _ (second.room ∙ first.room ∙ removal.room) (λ h. h tt) made;
}
