use Rattle.std.proofs.Common.{refl, subst, ◌≡◌, ◌+◌, ◌++◌, length, rules}
use Rattle.bimap_journal.specs.Lines.{IsAtRest}
use Rattle.bimap_journal.proofs.Groups.{any_moment_0, seen_1, seen_2, seen_3, seen_4, acknowledged}
use Rattle.bimap_journal.proofs.journal.Journal.commit.Goals as goal

pub returns-then-self-ge-MAX_END-clause-any_moment :
    goal.returns-then-self-ge-MAX_END-clause-any_moment
returns-then-self-ge-MAX_END-clause-any_moment g c texts more rests group =
    any_moment_0 c.args.self.now.disk c.args.self.now.end texts more c.args.group.now rests group

pub returns-in_err-write_at-clause-any_moment : goal.returns-in_err-write_at-clause-any_moment
returns-in_err-write_at-clause-any_moment g c texts more rests group =
    seen_1 c.args.self.now.disk c.args.self.now.end texts more c.args.group.now rests group _ _ c.write_at.ensures

pub returns-in_err-sync-clause-any_moment : goal.returns-in_err-sync-clause-any_moment
returns-in_err-sync-clause-any_moment g c texts more rests group =
    seen_2 c.args.self.now.disk c.args.self.now.end texts more c.args.group.now rests group _ _ _
    c.in_ok-write_at.ensures c.sync.ensures.0 c.sync.ensures.1

pub returns-in_err-write_byte-clause-any_moment : goal.returns-in_err-write_byte-clause-any_moment
returns-in_err-write_byte-clause-any_moment g c texts more rests group =
    seen_3 c.args.self.now.disk c.args.self.now.end texts more c.args.group.now rests group _ _ _ _
    c.in_ok-write_at.ensures _ c.write_byte.ensures.0 c.in_ok-sync.ensures.1 c.write_byte.ensures.1

pub returns-in_err-sync-2-clause-any_moment : goal.returns-in_err-sync-2-clause-any_moment
returns-in_err-sync-2-clause-any_moment g c texts more rests group =
    seen_4 c.args.self.now.disk c.args.self.now.end texts more c.args.group.now rests group _ _ _ _ _
    c.in_ok-write_at.ensures _ _ c.sync-2.ensures.0 c.in_ok-sync.ensures.1 c.in_ok-write_byte.ensures.1 c.sync-2.ensures.1

pub returns-clause-any_moment : goal.returns-clause-any_moment
returns-clause-any_moment g c texts more rests group =
    seen_4 c.args.self.now.disk c.args.self.now.end texts more c.args.group.now rests group _ _ _ _ _
    c.in_ok-write_at.ensures _ _ c.sync-2.ensures.0 c.in_ok-sync.ensures.1 c.in_ok-write_byte.ensures.1 c.sync-2.ensures.1

pub returns-clause-acknowledged : goal.returns-clause-acknowledged
returns-clause-acknowledged g c texts more rests group =
    let e = acknowledged c.args.self.now.disk c.args.self.now.end texts more c.args.group.now rests group _ _ _ _ _
    c.in_ok-write_at.ensures _ _ c.in_ok-sync-2.ensures.0 c.in_ok-sync.ensures.1 c.in_ok-write_byte.ensures.1 c.in_ok-sync-2.ensures.1 refl in
    let long : length c.args.group.now.items ≡ c.len.result = search rules in
    subst (λ n. IsAtRest c.sync-2.new.self (c.args.self.now.end + n) (texts ++ more)) long e
