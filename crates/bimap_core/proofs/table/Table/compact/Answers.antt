use Rattle.std.proofs.Common.{arith, sym, subst}
use Rattle.std.proofs.lemmas.Grind.{merely}
use Rattle.bimap_base.specs.Sets.{IsApart}
use Rattle.bimap_base.specs.Slots.{left_at, right_at}
use Rattle.bimap_base.specs.Places.{pairs_in, compacted}
use Rattle.bimap_base.proofs.Walk.{walk_of}
use Rattle.bimap_index.proofs.Compaction.{compacted_side}
use Rattle.bimap_core.proofs.Places.{fits_in}
use Rattle.bimap_core.proofs.Shrinking.{pairs_compacted, long_compacted, places_fit, walk_kept}
use Rattle.bimap_core.proofs.table.Table.compact.Goals as goal

pub compacted-requires : goal.compacted-requires
compacted-requires g c = record {
  listing = (left_at c.args.self.now.pairs, g.met.I.Index.settled c.args.self.now.left (left_at c.args.self.now.pairs) c.args.self.now.left_listing);
  room =
      let map = c.args.self.now in
      let listing = g.met.I.Index.settled map.left (left_at map.pairs) map.left_listing in
      places_fit map.pairs c.args.to c.requires.room (λ p. p.0) (g.I.Index.places map.left) (g.met.I.Index.listed map.left (left_at map.pairs) listing) (g.met.I.Index.distinct map.left (left_at map.pairs) listing);
}

pub compacted-requires-2 : goal.compacted-requires-2
compacted-requires-2 g c = record {
  listing = (right_at c.args.self.now.pairs, g.met.J.Index.settled c.args.self.now.right (right_at c.args.self.now.pairs) c.args.self.now.right_listing);
  room =
      let map = c.args.self.now in
      let listing = g.met.J.Index.settled map.right (right_at map.pairs) map.right_listing in
      places_fit map.pairs c.args.to c.requires.room (λ p. p.1) (g.J.Index.places map.right) (g.met.J.Index.listed map.right (right_at map.pairs) listing) (g.met.J.Index.distinct map.right (right_at map.pairs) listing);
}

pub adopt-requires : goal.adopt-requires
adopt-requires g c = record {
  from =
      let map = c.args.self.now in
      let slots = map.pairs in
      rw (c.new.ensures, c.in_ok-compact.ensures.ok) (c.args.to, left_at slots, c.in_ok-left.ensures, g.met.I.Index.settled map.left (left_at slots) map.left_listing, compacted_side (λ p. p.0) slots c.args.to);
}

pub adopt-requires-2 : goal.adopt-requires-2
adopt-requires-2 g c = record {
  from =
      let map = c.args.self.now in
      let slots = map.pairs in
      rw (c.new-2.ensures, c.in_ok-compact.ensures.ok) (c.args.to, right_at slots, c.in_ok-right.ensures, g.met.J.Index.settled map.right (right_at slots) map.right_listing, compacted_side (λ p. p.1) slots c.args.to);
}

pub invariant_of-self-2 : goal.invariant_of-self-2
invariant_of-self-2 g c =
    let map = c.args.self.now in
    let slots = map.pairs in
    let to = c.args.to in
    let long = long_compacted slots to c.requires.room in
    let left = rw (c.new.ensures, c.in_ok-compact.ensures.ok) at c.adopt.ensures.listing in
    let right = rw (c.new-2.ensures, c.in_ok-compact.ensures.ok) at c.adopt-2.ensures.listing in
    rw c.in_ok-compact.ensures.ok record {
      left_listing = merely left;
      right_listing = merely right;
      left_cells = omega (arith, long, c.adopt.ensures.cells to c.in_ok-left.ensures);
      right_cells = omega (arith, long, c.adopt-2.ensures.cells to c.in_ok-right.ensures);
      apart = subst (λ z. IsApart g.L.PartialEq.eq g.R.PartialEq.eq z) (sym (pairs_compacted (pairs_in slots) to)) map.apart;
      fits = fits_in (compacted (pairs_in slots) to);
    }

pub returns-clause-pairs : goal.returns-clause-pairs
returns-clause-pairs g c = rw c.in_ok-compact.ensures.ok (pairs_compacted (pairs_in c.args.self.now.pairs) c.args.to)

pub returns-clause-walk : goal.returns-clause-walk
returns-clause-walk g c =
    let map = c.args.self.now in
    let slots = map.pairs in
    let slots' = compacted (pairs_in slots) c.args.to in
    let index' = c.adopt.new.self in
    let listing = g.met.I.Index.settled map.left (left_at slots) map.left_listing in
    let listing' = rw (c.new.ensures, c.in_ok-compact.ensures.ok) at c.adopt.ensures.listing in
    rw c.in_ok-compact.ensures.ok
    (walk_kept g.met.L.Eq.laws g.met.R.Eq.laws g.I.Index.is_listing g.I.Index.places slots slots' map.left index' (λ keys moved. c.adopt.ensures.walk c.args.to keys moved c.in_ok-left.ensures) listing listing'
    (walk_of (λ p. p.0) slots (g.I.Index.places map.left) (g.met.I.Index.listed map.left (left_at slots) listing) (g.met.I.Index.distinct map.left (left_at slots) listing))
    (walk_of (λ p. p.0) slots' (g.I.Index.places index') (g.met.I.Index.listed index' (left_at slots') listing') (g.met.I.Index.distinct index' (left_at slots') listing'))
    map.apart (pairs_compacted (pairs_in slots) c.args.to))
