use Rattle.std.proofs.Common.{nat_eq, Contains}
use Rattle.std.specs.Cmp.{nat_eq_equiv}
use Rattle.bimap.proofs.Undoing.{inserting_undoable, undone_same}
use Rattle.demo_any.proofs.undone.seat_and_undo.Goals as goal

pub undo_insert-requires : goal.undo_insert-requires
undo_insert-requires g c =
    let r = c.in_ok-answer.ensures.answer in
    record {
      undoable = inserting_undoable nat_eq nat_eq nat_eq_equiv nat_eq_equiv _ _ _ _ (g.met.B.Bijection.apart c.args.ledger.now)
          (record { pair = (c.args.guest, c.args.seat); by_left = nat_eq_equiv.refl c.args.guest; is_answer = r.answer; put = r.put });
    }

pub returns : goal.returns
returns g c =
    let r = c.in_ok-answer.ensures.answer in
    let before = (g.B.Bijection.holding c.args.ledger.now).pairs in
    let after = (g.B.Bijection.holding c.insert.new.self).pairs in
    let now = (g.B.Bijection.holding c.undo_insert.new.self).pairs in
    undone_same nat_eq nat_eq nat_eq_equiv nat_eq_equiv before after c.args.guest c.in_ok-answer.answer (g.met.B.Bijection.apart c.args.ledger.now)
    (record { pair = (c.args.guest, c.args.seat); by_left = nat_eq_equiv.refl c.args.guest; is_answer = r.answer; put = r.put }) (Contains now) c.in-Ok.ensures.answer.undone
