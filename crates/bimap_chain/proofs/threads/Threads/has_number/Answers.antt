use Rattle.std.proofs.Common.{ap, sym, ◌∙◌, Some}
use Rattle.std.specs.Prelude.{nat_eq}
use Rattle.std.specs.Option.{option_eq}
use Rattle.bimap_chain.specs.Cells.{cell_of}
use Rattle.bimap_chain.proofs.Seen.{seen, has_one}
use Rattle.bimap_chain.proofs.threads.Threads.has_number.Goals as goal

pub has_number-requires : goal.has_number-requires
has_number-requires g c = has_one (cell_of g.L.Link.width) _ _ (ap (λ t. t.cells) c.self.view_is) _ c.requires.listed.0 _ _ c.requires.place c.index.ensures c.requires.listed.1

pub returns : goal.returns
returns g c = c.has_number.ensures ∙ ap (λ o. option_eq nat_eq o (Some c.args.number)) (sym (seen (cell_of g.L.Link.width) _ _ (ap (λ t. t.cells) c.self.view_is) (λ e. e.number) _ _ _ c.requires.place c.index.ensures))
