use Rattle.std.proofs.Common.{◌∙◌, ◌<◌, length, arith, ap, None, length-set}
use Rattle.bimap_chain.specs.Threads.{numbers_of}
use Rattle.bimap_chain.proofs.WithNext.{sound_again, few, over_listed, listed_within, unlisted}
use Rattle.bimap_chain.proofs.threads.Threads.cut.Goals as goal

pub next-next-requires-clause-listed : goal.next-next-requires-clause-listed
next-next-requires-clause-listed g c = (c.requires.listed.0, c.requires.listed.1)

pub set_link-requires-clause-bucket : goal.set_link-requires-clause-bucket
set_link-requires-clause-bucket g c =
    let held = c.requires.listed in
    let within = listed_within (numbers_of c.args.self.now) c.args.place held.0 held.1 in
    let some : 0 < length c.args.self.now.heads = omega (arith, within, c.requires.sound.threaded.enough_heads) in
    let fits : c.args.bucket < length c.args.self.now.heads = omega (arith, held.2) in
    omega (arith, ap length c.unlist.ensures.heads)

pub set_link-requires-clause-listed : goal.set_link-requires-clause-listed
set_link-requires-clause-listed g c = rw c.unlist.ensures.numbers (over_listed _ _ _ _ _ _ c.requires.over)

pub set_link-requires-clause-to : goal.set_link-requires-clause-to
set_link-requires-clause-to g c =
    let old = c.args.self.now in
    let held = c.requires.listed in
    let within = listed_within (numbers_of old) c.args.place held.0 held.1 in
    few _ _ _ _ _ _ (c.next-next.ensures ∙ c.requires.sound.threaded.links_lead c.args.place held.0 held.1) (omega (arith, within, ap length c.unlist.ensures.numbers, length-set (numbers_of old) c.args.place None))

pub returns-clause-sound : goal.returns-clause-sound
returns-clause-sound g c =
    let mid = c.unlist.ensures in
    let new = c.set_link.ensures in
    let held = c.requires.listed in
    sound_again _ _ _ _ _ _ _ _ c.requires.sound mid.numbers mid.links mid.cells mid.heads new.numbers new.links new.cells new.heads
    (unlisted _ _ _ _ held.0 c.args.place _ _ _ _ _ c.requires.sound.threaded held.2 held.1 c.requires.over c.next-next.ensures)
