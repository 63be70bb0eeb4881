use Rattle.std.proofs.Common.{◌≡◌, ◌<◌, Option, Some, None, is_some, false, length, drop, ap, ◌∙◌, sym, refl, arith, true≢false}
use Rattle.std.specs.Option.{option_map}
use Rattle.bimap_base.specs.Places.{pairs_in}
use Rattle.bimap_base.proofs.Passing.{from_free, from_end}
use Rattle.bimap_walk.proofs.places.live_from.Goals as goal

-- If nothing was read at a place, the place has no pair.
nothing_at : {A P : Type 0} (f : A → P) (r : Option A) (o : Option P) → is_some r ≡ false → option_map f r ≡ o → o ≡ None
nothing_at f None o e h = sym h
nothing_at f (Some x) o e h = absurd (true≢false e)

pub loop-place-init : goal.loop-place-init
loop-place-init g c = refl

pub returns-then-is_some-clause-same : goal.returns-then-is_some-clause-same
returns-then-is_some-clause-same g c = c.loop-place.invariant

pub loop-place-preserved : goal.loop-place-preserved
loop-place-preserved g c = from_free c.args.pairs.now c.loop-place.place (nothing_at _ c.at.result _ (sym c.is_some.ensures ∙ c.if-is_some.false) c.at.ensures) ∙ c.loop-place.invariant

pub unreachable-requires : goal.unreachable-requires
unreachable-requires g c =
    let none = from_end c.args.pairs.now c.loop-place.place (omega (arith, c.loop-place-test.false, c.places-place-end.ensures)) in
    let some : 0 < length (pairs_in (drop c.loop-place.place c.args.pairs.now)) = rw c.loop-place.invariant c.requires in
    omega (arith, ap length none, some)
