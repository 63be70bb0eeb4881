-- A pair is inserted because its left, or its right, has no partner.
use Rattle.std.proofs.Common.{◌∙◌, inl, inr, Bool, refl, sym, true≢false}
use Rattle.std.specs.Prelude.{Ok, Contains}
use Rattle.std.specs.Cmp.{IsEquivalence}
use Rattle.bimap_base.specs.Sets.{LacksLeft, LacksRight}
use Rattle.bimap_base.specs.Holding.{Holding, IsInsertionWithoutOverwriting, IsInterning}
use Rattle.bimap_any.specs.InterningByRight.{IsInterningByRight}

module _ {L R : Type 0} (same_left : L → L → Bool) (same_right : R → R → Bool) (old : Holding L R) (pair : L × R) (new : Holding L R) (put : IsInsertionWithoutOverwriting same_left same_right old pair (Ok tt) new) where
  kept : (p : L × R) → Contains old.pairs p → Contains new.pairs p
  kept p was = (put.put p).1 (inr (was, put.none_held p was))

  pub interned : IsEquivalence same_left → LacksLeft same_left (Contains old.pairs) pair.0 → IsInterning same_left same_right old pair (Ok pair.1) new
  interned lefts lacks =
      record {
        answer = (pair.0, (put.put pair).1 (inl refl), lefts.refl pair.0);
        held = λ h. absurd (true≢false (sym h.2 ∙ lacks h.0 h.1));
        given = λ _. refl;
        put = λ _. put.put;
        count = λ _. put.count;
        kept = kept;
        refused = tt;
        unchanged = tt;
        room = put.room;
      }

  pub interned_by_right : IsEquivalence same_right → LacksRight same_right (Contains old.pairs) pair.1 → IsInterningByRight same_left same_right old pair (Ok pair.0) new
  interned_by_right rights lacks =
      record {
        answer = (pair.1, (put.put pair).1 (inl refl), rights.refl pair.1);
        held = λ h. absurd (true≢false (sym h.2 ∙ lacks h.0 h.1));
        given = λ _. refl;
        put = λ _. put.put;
        count = λ _. put.count;
        kept = kept;
        refused = tt;
        unchanged = tt;
        room = put.room;
      }
