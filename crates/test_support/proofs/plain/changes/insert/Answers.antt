use Rattle.std.proofs.Common.{rules, ◌≡◌, ◌<◌, inl, inr, sym, ap, ◌∙◌, subst, arith, length, Contains, vec_len, true≢false}
use Rattle.std.specs.Vec.{vec_capacity}
use Rattle.bimap_base.specs.Answer.{IsAnswer}
use Rattle.bimap_base.specs.Sets.{NoneShares}
use Rattle.bimap_base.specs.declared.overwritten.Overwritten.TheVariants.{Neither}
use Rattle.test_support.proofs.Removal.{put_by, apart_by}
use Rattle.test_support.proofs.plain.changes.insert.Goals as goal

-- where a pair was taken out, or a place was free, the capacity stays
stays : (g : _) (c : goal.After-push_reserved g) → vec_len c.strike-answer.new.pairs < vec_capacity c.strike-answer.new.pairs → vec_capacity c.push_reserved.new.self ≡ vec_capacity c.args.pairs.now
stays g c h = c.push_reserved.ensures.capacity ∙ c.make_place.ensures.had_place h ∙ c.strike-answer.ensures.capacity

none : (g : _) (c : goal.After-push_reserved g) → c.strike-answer.result ≡ Neither → NoneShares g.L.PartialEq.eq g.R.PartialEq.eq (Contains c.args.pairs.now.items) (c.args.left, c.args.right)
none g c e = subst (IsAnswer g.L.PartialEq.eq g.R.PartialEq.eq (Contains c.args.pairs.now.items) (c.args.left, c.args.right)) e c.strike-answer.ensures.answer

pub returns-clause-insertion : goal.returns-clause-insertion
returns-clause-insertion g c = record {
  answer = c.strike-answer.ensures.answer;
  put = put_by g.L.PartialEq.eq g.R.PartialEq.eq c.args.pairs.now.items c.strike-answer.new.pairs.items c.push_reserved.new.self.items (c.args.left, c.args.right) c.strike-answer.ensures.cleared (search rules);
  count = omega (arith, c.strike-answer.ensures.count, c.push_reserved.ensures.len, ap length c.make_place.ensures.items, c.args.pairs.now.ok.0, c.strike-answer.new.pairs.ok.0, c.make_place.new.items.ok.0, c.push_reserved.new.self.ok.0);
  handed_back = tt;
  none_struck = tt;
  full = tt;
  unchanged = tt;
  room = record {
    not_lower = omega (arith, c.push_reserved.ensures.capacity, c.make_place.ensures.not_lower, c.strike-answer.ensures.capacity);
    at_most = omega (arith, c.push_reserved.ensures.capacity, c.make_place.ensures.at_most, c.strike-answer.ensures.capacity);
    had_place = λ h. elim c.strike-answer.ensures.spare [
      | inl s ↦ stays g c s
      | inr w ↦ stays g c (omega (arith, h, ap length w.1, c.strike-answer.ensures.capacity, c.strike-answer.new.pairs.ok.0))
    ];
    in_place = λ h. elim c.strike-answer.ensures.spare [
      | inl s ↦ stays g c s
      | inr w ↦ absurd (true≢false (sym h.2 ∙ none g c w.0 h.0 h.1))
    ];
  };
}

pub returns-clause-apart : goal.returns-clause-apart
returns-clause-apart g c = apart_by g.L.PartialEq.eq g.R.PartialEq.eq g.met.L.Eq.laws g.met.R.Eq.laws c.args.pairs.now.items c.strike-answer.new.pairs.items c.push_reserved.new.self.items (c.args.left, c.args.right) c.strike-answer.ensures.apart c.strike-answer.ensures.cleared (search rules)
