use Rattle.std.proofs.Common.{arith, false, refl, sym}
use Rattle.bimap_tree.proofs.Descents.{costs_none, costs_on, costs_last, cell_within, falls, descends_top, descends_deep, descends_end, descends_on}
use Rattle.bimap_tree.proofs.remove.first_in_tree.Goals as goal

pub loop-left-init : goal.loop-left-init
loop-left-init g c = record { descends = descends_top _ _ _ _; compared = refl; touched = costs_none _ _ 1 _ }

pub read-requires : goal.read-requires
read-requires g c = cell_within _ _ _ _ _ _ c.loop-left.invariant.touched _ refl _ c.requires.1.tree

pub note-requires : goal.note-requires
note-requires g c = descends_deep _ _ _ _ _ _ _ c.loop-left.invariant.descends _ c.read.ensures.node _ c.requires.1

pub overflow_add-depth : goal.overflow_add-depth
overflow_add-depth g c = omega (arith, descends_deep _ _ _ _ _ _ _ c.loop-left.invariant.descends _ c.read.ensures.node _ c.requires.1)

pub loop-left-smaller : goal.loop-left-smaller
loop-left-smaller g c = falls _ _ _ _ _ _ c.loop-left.invariant.touched _ refl _ c.read.ensures.node false _ (sym c.in-Some.is) _ c.requires.1.tree

pub loop-left-preserved : goal.loop-left-preserved
loop-left-preserved g c =
    record {
      descends = descends_on _ _ _ _ _ _ _ c.loop-left.invariant.descends _ c.read.ensures.node _ c.in-Some.is _ c.note.ensures.noted c.note.ensures.kept;
      compared = omega arith;
      touched = costs_on _ _ _ _ _ _ c.loop-left.invariant.touched _ refl _ c.read.ensures.node false _ (sym c.in-Some.is) _ (omega arith);
    }

pub returns-clause-first : goal.returns-clause-first
returns-clause-first g c = descends_end _ _ _ _ _ _ _ c.loop-left.invariant.descends _ c.read.ensures.node c.in_default.is

pub returns-clause-comparisons : goal.returns-clause-comparisons
returns-clause-comparisons g c = omega arith

pub returns-clause-touches : goal.returns-clause-touches
returns-clause-touches g c s h = omega (arith, costs_last _ _ _ _ _ _ c.loop-left.invariant.touched _ refl _ c.read.ensures.node false (g.M.Meter.touches c.read.new.meter) (omega arith) s h.tree)
