use Rattle.std.proofs.Common.{rules, ◌≡◌, refl, sym, ◌∙◌, true≢false, nat_le}
use Rattle.std.proofs.lemmas.Bool.{true_from_ne_false, leb-true, le-leb}
use Rattle.bimap.proofs.Tested.{IsKept-by}
use Rattle.demo_any.proofs.retained.free_below.Goals as goal

pub returns : goal.returns
returns g c p =
    let kept =
    IsKept-by _ (λ s. s.0.now ≡ c.args.least) (λ s a b t i e. search rules) (λ q b. nat_le c.args.least q.1 ≡ b) (λ s l r b t i e. search rules) _ _ _ refl c.retain.ensures.retained.kept
    (λ q m t f. true≢false (sym t ∙ f)) p in
    (λ m. let h = kept.0 m in (h.0, leb-true _ _ (true_from_ne_false _ h.1)), λ m. kept.1 (m.0, λ f. true≢false (sym (le-leb _ _ m.1) ∙ f)))
