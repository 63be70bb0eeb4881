use Rattle.std.proofs.Common.{◌≡◌, ◌∙◌, ◌+◌, ◌<◌, [], ◌∷◌, ◌++◌, length, take, drop, suc, sym, ap, subst, arith}
use Rattle.std.specs.Prelude.{Contains}
use Rattle.std.specs.List.{zip}
use Rattle.std.proofs.lemmas.Grind.{common_steps}
use Rattle.bimap_journal.specs.Batches.{has_changed, IsLineOfCall}
use Rattle.bimap_journal.proofs.Batches.{IsPart, at, zip_whole, space_more, space_less, part_none, part_more, part_same, recorded, recorded_none}
use Rattle.bimap_journal.proofs.batch.fill.Goals.{then-has_changed, else-has_changed}
use Rattle.bimap_journal.proofs.batch.fill.Goals as goal

pub loop-i-init : goal.loop-i-init
loop-i-init g c = record {
  space = let e : length c.args.group.items ≡ 0 = ap length c.requires.empty in omega (arith, e, c.requires.space);
  part = λ old new calls texts all ran kept. part_none g.L.Stored.reads g.R.Stored.reads g.L.PartialEq.eq g.R.PartialEq.eq g.met.L.Eq.laws g.met.R.Eq.laws (Contains old.pairs) texts c.args.group.items c.requires.empty kept;
}

pub loop-i-preserved : goal.loop-i-preserved
loop-i-preserved g c =
    let lines = c.args.lines.now.items in
    let inside : c.loop-i.i < length lines = (let t = c.loop-i-test.true in let e = c.len-i-end.ensures in let ok = c.args.lines.now.ok.0 in omega (arith, t, e, ok)) in
    record {
      space =
          elim c.if-has_changed.branch [
            | then-has_changed w ↦
                let e = space_more lines c.loop-i.i w.index-then-has_changed.result.now inside w.index-then-has_changed.ensures in
                let a = w.push.new.group.ok.0 in
                let b = c.loop-i.group.ok.0 in
                let d = w.index-then-has_changed.result.now.ok.0 in
                rw w.group-is (omega (arith, e, a, b, d, c.loop-i.invariant.space, w.push.ensures.len, w.push.ensures.capacity))
            | else-has_changed w ↦ rw w.group-is (let e = space_less lines c.loop-i.i inside in omega (arith, e, c.loop-i.invariant.space))
          ];
      part = λ old new calls texts all ran kept.
          let one_each = c.requires.one_each in
          let here = at (λ call line. IsLineOfCall g.L.PartialEq.eq g.R.PartialEq.eq g.L.Stored.reads g.R.Stored.reads call line.items) calls lines c.args.replies.now.items c.loop-i.i all one_each inside in
          let done = take c.loop-i.i (zip calls c.args.replies.now.items) in
          let more : take (c.loop-i.i + 1) (zip calls c.args.replies.now.items) ≡ done ++ (here.call, here.reply) ∷ [] = (let on : c.loop-i.i + 1 ≡ suc c.loop-i.i = omega arith in ap (λ n. take n (zip calls c.args.replies.now.items)) on ∙ here.taken) in
          let reply : c.index.result.now ≡ here.reply = c.index.ensures ∙ here.reply_is c.index.result.now in
          let so_far = c.loop-i.invariant.part old new calls texts all ran kept in
          let right = ran.1.legal done (here.call, here.reply) (drop (suc c.loop-i.i) (zip calls c.args.replies.now.items)) here.split in
          rw more (elim c.if-has_changed.branch [
            | then-has_changed w ↦
                let line : w.index-then-has_changed.result.now ≡ here.line = w.index-then-has_changed.ensures ∙ here.line_is w.index-then-has_changed.result.now in
                let of_call = subst (λ l. IsLineOfCall g.L.PartialEq.eq g.R.PartialEq.eq g.L.Stored.reads g.R.Stored.reads here.call l.items) (sym line) here.fits in
                rw w.group-is (part_more g.L.Stored.reads g.R.Stored.reads g.L.PartialEq.eq g.R.PartialEq.eq g.met.L.Eq.laws g.met.R.Eq.laws (Contains old.pairs) texts done here.call here.reply right c.loop-i.group.items so_far
                w.index-then-has_changed.result.now.items w.push.new.group.items (ap has_changed (sym reply) ∙ sym c.has_changed.ensures ∙ w.if-has_changed.true) of_call w.push.ensures.pushed)
            | else-has_changed w ↦
                rw w.group-is (part_same g.L.Stored.reads g.R.Stored.reads g.L.PartialEq.eq g.R.PartialEq.eq g.met.L.Eq.laws g.met.R.Eq.laws (Contains old.pairs) texts done here.call here.reply right c.loop-i.group.items so_far
                (ap has_changed (sym reply) ∙ sym c.has_changed.ensures ∙ w.if-has_changed.false))
          ]);
    }

pub returns-then-not-is_empty : goal.returns-then-not-is_empty
returns-then-not-is_empty g c old new calls texts all ran kept =
    let lines = c.args.lines.now.items in
    let last : c.loop-i.i ≡ length lines = (let t = c.loop-i-test.false in let u = c.loop-i.auto.i-end in let e = c.len-i-end.ensures in let ok = c.args.lines.now.ok.0 in omega (arith, t, u, e, ok)) in
    let whole = ap (λ n. take n (zip calls c.args.replies.now.items)) last ∙ zip_whole (λ call line. IsLineOfCall g.L.PartialEq.eq g.R.PartialEq.eq g.L.Stored.reads g.R.Stored.reads call line.items) calls lines c.args.replies.now.items all c.requires.one_each in
    let part = subst (λ h. IsPart g.L.Stored.reads g.R.Stored.reads g.L.PartialEq.eq g.R.PartialEq.eq g.met.L.Eq.laws g.met.R.Eq.laws (Contains old.pairs) texts h c.loop-i.group.items) whole (c.loop-i.invariant.part old new calls texts all ran kept) in
    recorded g.L.Stored.reads g.R.Stored.reads g.L.PartialEq.eq g.R.PartialEq.eq g.met.L.Eq.laws g.met.R.Eq.laws old new calls c.args.replies.now.items ran texts c.loop-i.group.items part c.push_reserved.new.self.items (grind (arith, common_steps)) c.push_reserved.ensures.items

pub returns-else-not-is_empty : goal.returns-else-not-is_empty
returns-else-not-is_empty g c old new calls texts all ran kept =
    let lines = c.args.lines.now.items in
    let last : c.loop-i.i ≡ length lines = (let t = c.loop-i-test.false in let u = c.loop-i.auto.i-end in let e = c.len-i-end.ensures in let ok = c.args.lines.now.ok.0 in omega (arith, t, u, e, ok)) in
    let whole = ap (λ n. take n (zip calls c.args.replies.now.items)) last ∙ zip_whole (λ call line. IsLineOfCall g.L.PartialEq.eq g.R.PartialEq.eq g.L.Stored.reads g.R.Stored.reads call line.items) calls lines c.args.replies.now.items all c.requires.one_each in
    let part = subst (λ h. IsPart g.L.Stored.reads g.R.Stored.reads g.L.PartialEq.eq g.R.PartialEq.eq g.met.L.Eq.laws g.met.R.Eq.laws (Contains old.pairs) texts h c.loop-i.group.items) whole (c.loop-i.invariant.part old new calls texts all ran kept) in
    recorded_none g.L.Stored.reads g.R.Stored.reads g.L.PartialEq.eq g.R.PartialEq.eq g.met.L.Eq.laws g.met.R.Eq.laws old new calls c.args.replies.now.items ran texts c.loop-i.group.items part (grind (arith, common_steps))
