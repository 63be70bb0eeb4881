use Rattle.std.proofs.Common.{rules, ◌≡◌, ◌∙◌, ◌+◌, ◌∷◌, [], ◌++◌, take, get_or, sym, ap}
use Rattle.std.proofs.lemmas.List.{take_more}
use Rattle.std.proofs.lemmas.Slice.Zip.{all_zipped_more}
use Rattle.bimap_journal.specs.Batches.{IsLineOfCall}
use Rattle.bimap_journal.proofs.batch.lines_of.Goals as goal

pub loop-call-preserved : goal.loop-call-preserved
loop-call-preserved g c =
    let calls = c.args.calls.now.items in
    let at = c.loop-call.call-index in
    let is : c.call-item.result ≡ get_or calls at c.call-item.result = c.call-item.is ∙ ap (λ xs. get_or xs at c.call-item.result) c.deref-call-items.ensures.value in
    let more : take (at + 1) calls ≡ take at calls ++ c.call-item.result ∷ [] = take_more calls at c.call-item.result (search rules) ∙ ap (λ call. take at calls ++ call ∷ []) (sym is) in
    let pushed : c.push.new.self.items ≡ c.loop-call.lines.items ++ c.in_ok-line_of_call.field-0 ∷ [] = c.in_ok-push.ensures.items in
    rw (more, pushed) (all_zipped_more (λ call line. IsLineOfCall g.L.PartialEq.eq g.R.PartialEq.eq g.L.Stored.reads g.R.Stored.reads call line.items) (take at calls) c.loop-call.lines.items c.call-item.result c.in_ok-line_of_call.field-0 c.loop-call.invariant c.in_ok-line_of_call.ensures)
