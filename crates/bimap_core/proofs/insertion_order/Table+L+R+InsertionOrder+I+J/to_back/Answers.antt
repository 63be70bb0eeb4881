use Rattle.std.proofs.Common.{ap, is_some, refl}
use Rattle.std.proofs.lemmas.Grind.{merely}
use Rattle.bimap_base.specs.PairsAt.{pairs_at}
use Rattle.bimap_base.specs.Positions.{ComesLast}
use Rattle.bimap_base.specs.Slots.{left_at}
use Rattle.bimap_base.proofs.Walk.{walked}
use Rattle.bimap_index.specs.InsertionLaws.{insertion_settled}
use Rattle.bimap_core.proofs.Linking.{found_at, found_here}
use Rattle.bimap_core.proofs.Moves.{is_moved, members_last, moved_listing, not_moved, pair_last}
use Rattle.bimap_core.proofs.Places.{key_lacking, pair_of}
use Rattle.bimap_core.proofs.Positions.{insertion_walk}
use Rattle.bimap_core.proofs.insertion_order.Table+L+R+InsertionOrder+I+J.to_back.Goals as goal

pub find_listed-requires : goal.find_listed-requires
find_listed-requires g c =
    let t = c.args.self.now in
    rw c.new-side.ensures (insertion_settled g.L.PartialEq.eq g.I.Index.is_listing g.met.I.Index.settled t.left.index t.left.list.places (left_at t.pairs) t.left_listing)

pub to_back-requires : goal.to_back-requires
to_back-requires g c =
    let t = c.args.self.now in
    let walk = insertion_walk (λ p. p.0) g.L.PartialEq.eq g.I.Index.is_listing g.met.I.Index.settled t.pairs t.left.index t.left.list.places t.left_listing in
    (walk.live c.in-Some.place).1 (ap is_some (pair_of _ _ (found_here (λ p. p.0) g.Q.Query.same t.pairs c.args.left c.find_listed.result (rw c.new-side.ensures at c.find_listed.ensures.found) c.in-Some.place c.in-Some.is)).1)

pub invariant_of-self-2 : goal.invariant_of-self-2
invariant_of-self-2 g c =
    let t = c.args.self.now in
    let moved = c.to_back.ensures in
    let listing = insertion_settled g.L.PartialEq.eq g.I.Index.is_listing g.met.I.Index.settled t.left.index t.left.list.places (left_at t.pairs) t.left_listing in
    record {
      left_listing = merely (moved_listing g.I.Index.is_listing t.left.index c.to_back.new.self.index t.left.list.places c.to_back.new.self.list.places (left_at t.pairs) moved.index (members_last t.left.list.places c.to_back.new.self.list.places c.in-Some.place moved.moved) moved.distinct listing);
      right_listing = t.right_listing;
      left_cells = rw (moved.index, moved.cells) t.left_cells;
      right_cells = t.right_cells;
      apart = t.apart;
      fits = t.fits;
    }

pub returns-clause-moved : goal.returns-clause-moved
returns-clause-moved g c =
    let t = c.args.self.now in
    let walk = insertion_walk (λ p. p.0) g.L.PartialEq.eq g.I.Index.is_listing g.met.I.Index.settled t.pairs t.left.index t.left.list.places t.left_listing in
    let here = pair_of _ _ (found_here (λ p. p.0) g.Q.Query.same t.pairs c.args.left c.find_listed.result (rw c.new-side.ensures at c.find_listed.ensures.found) c.in-Some.place c.in-Some.is) in
    is_moved (λ p. g.Q.Query.same p.0 c.args.left) (λ was p. ComesLast was p p) (pairs_at t.pairs t.left.list.places) (pairs_at t.pairs c.to_back.new.self.list.places) here.0 here.2 (pair_last t.pairs t.left.list.places walk c.in-Some.place here.0 here.1 c.to_back.new.self.list.places c.to_back.ensures.moved)

pub returns-in_default-clause-moved : goal.returns-in_default-clause-moved
returns-in_default-clause-moved g c =
    let t = c.args.self.now in
    let walk = insertion_walk (λ p. p.0) g.L.PartialEq.eq g.I.Index.is_listing g.met.I.Index.settled t.pairs t.left.index t.left.list.places t.left_listing in
    not_moved (λ p. g.Q.Query.same p.0 c.args.left) (λ was p. ComesLast was p p) (pairs_at t.pairs t.left.list.places) (pairs_at t.pairs t.left.list.places)
    (λ p has. key_lacking (λ p. p.0) g.Q.Query.same t.pairs c.args.left c.find_listed.result (found_at (λ p. p.0) g.Q.Query.same t.pairs c.args.left c.find_listed.result (rw c.new-side.ensures at c.find_listed.ensures.found)) c.in_default.is p ((walked t.pairs t.left.list.places walk p).1 has)) refl
