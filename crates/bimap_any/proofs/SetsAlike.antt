-- A statement about a set is true of another set with the same members.
use Rattle.std.proofs.Common.{Bool, inl, inr}
use Rattle.bimap_base.specs.Sets.{IsSameSet, NoneShares, SomeShares, IsWithPut, HasLeft, LacksLeft, HasRight, LacksRight}
use Rattle.bimap_base.specs.Answer.{IsAnswer, IsOnlyStruck, IsAllowed, IsRefusal, IsRefusalUnder}
use Rattle.bimap_base.specs.Undoing.{IsUndoable, IsUndone}
use Rattle.bimap_base.specs.declared.overwritten.Overwritten.{Overwritten}
use Rattle.bimap_base.specs.declared.overwritten.Overwritten.TheVariants.{Neither, Left, Right, Pair, Both}
use Rattle.bimap_base.specs.declared.policy.Policy.{Policy}
use Rattle.bimap_base.specs.declared.refusal.NotInserted.{NotInserted}
use Rattle.bimap_base.specs.declared.refusal.NotInserted.TheVariants.{Occupied, Memory as MemoryAlone}
use Rattle.bimap_base.specs.declared.refusal.NotInsertedWith.{NotInsertedWith}
use Rattle.bimap_base.specs.declared.refusal.NotInsertedWith.TheVariants.{LeftHeld, RightHeld, Memory}

module _ {L R : Type 0} (S T : L × R → Type 0) (same : IsSameSet S T) where
  pub HasLeft-same : (eql : L → L → Bool) (l : L) → HasLeft eql S l → HasLeft eql T l
  HasLeft-same eql l h = (h.0, (same h.0).0 h.1, h.2)

  pub HasRight-same : (eqr : R → R → Bool) (r : R) → HasRight eqr S r → HasRight eqr T r
  HasRight-same eqr r h = (h.0, (same h.0).0 h.1, h.2)

  pub LacksLeft-same : (eql : L → L → Bool) (l : L) → LacksLeft eql S l → LacksLeft eql T l
  LacksLeft-same eql l h q there = h q ((same q).1 there)

  pub LacksRight-same : (eqr : R → R → Bool) (r : R) → LacksRight eqr S r → LacksRight eqr T r
  LacksRight-same eqr r h q there = h q ((same q).1 there)

  module _ (eql : L → L → Bool) (eqr : R → R → Bool) where
    pub NoneShares-same : (p : L × R) → NoneShares eql eqr S p → NoneShares eql eqr T p
    NoneShares-same p h q there = h q ((same q).1 there)

    pub SomeShares-back : (p : L × R) → SomeShares eql eqr T p → SomeShares eql eqr S p
    SomeShares-back p h = (h.0, (same h.0).1 h.1, h.2)

    IsOnlyStruck-same : (new p : L × R) → IsOnlyStruck eql eqr S new p → IsOnlyStruck eql eqr T new p
    IsOnlyStruck-same new p h = record { member = (same p).0 h.member; only = λ q there. h.only q ((same q).1 there) }

    pub IsAnswer-same : (new : L × R) (a : Overwritten L R) → IsAnswer eql eqr S new a → IsAnswer eql eqr T new a
    IsAnswer-same new Neither h = NoneShares-same new h
    IsAnswer-same new (Left l r) h = (IsOnlyStruck-same new (l, r) h.0, h.1, h.2)
    IsAnswer-same new (Right l r) h = (IsOnlyStruck-same new (l, r) h.0, h.1, h.2)
    IsAnswer-same new (Pair l r) h = (IsOnlyStruck-same new (l, r) h.0, h.1, h.2)
    IsAnswer-same new (Both p q) h =
        record {
          first = (same p).0 h.first;
          second = (same q).0 h.second;
          two = h.two;
          by_left = h.by_left;
          by_right = h.by_right;
          only = λ s there. h.only s ((same s).1 there);
        }

    pub IsRefusal-same : (NoPlace NoRoom : Type 0) (new : L × R) (e : NotInserted L R) → (NoPlace → NoRoom) → IsRefusal eql eqr S NoPlace new e → IsRefusal eql eqr T NoRoom new e
    IsRefusal-same NoPlace NoRoom new (Occupied l r) full h = (h.0, (h.1.0, (same h.1.0).0 h.1.1, h.1.2))
    IsRefusal-same NoPlace NoRoom new (MemoryAlone l r) full h = (h.0, NoneShares-same new h.1, full h.2)

    pub IsAllowed-same : (new : L × R) (policy : Policy) → IsAllowed eql eqr S new policy → IsAllowed eql eqr T new policy
    IsAllowed-same new policy h =
        record {
          left = λ e. LacksLeft-same eql new.0 (h.left e);
          right = λ e. LacksRight-same eqr new.1 (h.right e);
        }

    pub IsRefusalUnder-same : (NoPlace NoRoom : Type 0) (new : L × R) (policy : Policy) (e : NotInsertedWith L R) → (NoPlace → NoRoom) → IsRefusalUnder eql eqr S NoPlace new policy e → IsRefusalUnder eql eqr T NoRoom new policy e
    IsRefusalUnder-same NoPlace NoRoom new policy (LeftHeld l r) full h = (h.0, h.1, HasLeft-same eql new.0 h.2)
    IsRefusalUnder-same NoPlace NoRoom new policy (RightHeld l r) full h = (h.0, (λ e. LacksLeft-same eql new.0 (h.1 e)), h.2, HasRight-same eqr new.1 h.3)
    IsRefusalUnder-same NoPlace NoRoom new policy (Memory l r) full h = (h.0, NoneShares-same new h.1, full h.2)

    pub IsWithPut-same : (U V : L × R → Type 0) (p : L × R) → IsSameSet U V → IsWithPut eql eqr S p U → IsWithPut eql eqr T p V
    IsWithPut-same U V p after put q = (
      λ there. elim ((put q).0 ((after q).1 there)) [
        | inl e ↦ inl e
        | inr old ↦ inr ((same q).0 old.0, old.1)
      ],
      λ either. elim either [
        | inl e ↦ (after q).0 ((put q).1 (inl e))
        | inr old ↦ (after q).0 ((put q).1 (inr ((same q).1 old.0, old.1)))
      ],
    )

    pub IsUndoable-same : (left : L) (a : Overwritten L R) → IsUndoable eql eqr S left a → IsUndoable eql eqr T left a
    IsUndoable-same left a h =
        record {
          pair = h.pair;
          member = (same h.pair).0 h.member;
          by_left = h.by_left;
          alone = λ q s o there. h.alone q s o ((same s).1 there);
          two = h.two;
        }

    pub IsUndone-same : (U V : L × R → Type 0) (left : L) (a : Overwritten L R) → IsSameSet U V → IsUndone eql eqr S left a U → IsUndone eql eqr T left a V
    IsUndone-same U V left a after undone q = (
      λ there. elim ((undone q).0 ((after q).1 there)) [
        | inl o ↦ inl o
        | inr old ↦ inr ((same q).0 old.0, old.1)
      ],
      λ either. (after q).0 ((undone q).1 (elim either [ inl o ↦ inl o | inr old ↦ inr ((same q).1 old.0, old.1) ])),
    )

pub turned : {X : Type 0} (S T : X → Type 0) → IsSameSet S T → IsSameSet T S
turned S T same x = ((same x).1, (same x).0)
