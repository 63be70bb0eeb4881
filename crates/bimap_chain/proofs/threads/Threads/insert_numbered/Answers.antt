use Rattle.std.proofs.Common.{◌∙◌, suc, arith}
use Rattle.bimap_chain.proofs.WithNext.{sound_again, few, over_listed, goes_listed, link_over, listed}
use Rattle.bimap_chain.proofs.threads.Threads.insert_numbered.Goals as goal

pub link-next-requires-clause-listed : goal.link-next-requires-clause-listed
link-next-requires-clause-listed g c = goes_listed _ _ _ _ _ c.over-over.ensures

pub list-requires-clause-next : goal.list-requires-clause-next
list-requires-clause-next g c =
    few _ _ _ (suc c.args.place) _ _ (c.link-next.ensures ∙ link_over _ _ _ _ _ _ c.requires.sound.threaded c.bucket-bucket.ensures.bound c.requires.cell c.over-over.ensures) (omega (arith, c.requires.cell))

pub set_link-requires-clause-listed : goal.set_link-requires-clause-listed
set_link-requires-clause-listed g c = rw c.list.ensures.numbers (over_listed _ _ _ _ _ _ c.over-over.ensures)

pub returns-clause-sound : goal.returns-clause-sound
returns-clause-sound g c =
    let mid = c.list.ensures in
    let new = c.set_link.ensures in
    sound_again _ _ _ _ _ _ _ _ c.requires.sound mid.numbers mid.links mid.cells mid.heads new.numbers new.links new.cells new.heads
    (listed _ _ _ _ c.args.number c.args.place _ _ _ _ c.requires.sound.threaded c.bucket-bucket.ensures.value c.requires.cell c.requires.free c.over-over.ensures c.link-next.ensures)
