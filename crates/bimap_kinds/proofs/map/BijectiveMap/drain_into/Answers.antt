use Rattle.std.proofs.Common.{◌++◌, ◌∙◌, ap, rules}
use Rattle.std.proofs.lemmas.Result.{on_ok_weaker}
use Rattle.bimap_kinds.proofs.Walk.{all_true, none_false}
use Rattle.bimap_kinds.proofs.map.BijectiveMap.drain_into.Goals as goal

pub returns-clause-drained : goal.returns-clause-drained
returns-clause-drained g c = on_ok_weaker c.extract_into.result (λ e. e.gone ∙ ap (λ xs. c.args.pairs.now.items ++ xs) (all_true _ (λ f p b f' t. search rules) _ _ _ _ e.calls)) c.extract_into.ensures.extracted

pub returns-clause-empty : goal.returns-clause-empty
returns-clause-empty g c = on_ok_weaker c.extract_into.result (λ e. e.kept ∙ none_false _ (λ f p b f' t. search rules) _ _ _ _ e.calls) c.extract_into.ensures.extracted
