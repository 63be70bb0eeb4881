use Rattle.std.proofs.Common.{arith, ◌≡◌, inl, inr, [], subst, refl}
use Rattle.std.specs.Prelude.{Contains}
use Rattle.std.proofs.lemmas.Grind.{common_steps}
use Rattle.bimap_base.proofs.Members.{none_in}
use Rattle.bimap_journal.specs.Lines.{HasLines}
use Rattle.bimap_journal.specs.Reading.{IsFileFault}
use Rattle.bimap_journal.proofs.Kept.{kept_none}
use Rattle.bimap_journal.proofs.Opened.{HasNone, of_found, ok_then}
use Rattle.bimap_journal.proofs.Found.{found_rests, found_leaves, not_read, not_begun}
use Rattle.bimap_journal.proofs.reading.read_into.Goals as goal

pub returns-then-is_empty-clause-opened : goal.returns-then-is_empty-clause-opened
returns-then-is_empty-clause-opened g c =
    let bytes = c.in-Ok.bytes in
    let empty : bytes.items ≡ [] = grind (arith, common_steps) in
    ok_then c.begin.result (λ end rests. record {
      found = bytes;
      texts = [];
      has = inr (empty, refl);
      any_moment = of_found HasNone c.args.disk.now c.read.new.self c.begin.new.disk bytes c.in-Ok.ensures.found (c.begin.ensures.any_moment c.args.disk.now bytes c.in-Ok.ensures.found empty);
      rests = rests;
      kept = kept_none g.L.Stored.reads g.R.Stored.reads g.L.PartialEq.eq g.R.PartialEq.eq g.met.L.Eq.laws g.met.R.Eq.laws _
          (λ p there. none_in p (subst (λ l. Contains l p) c.requires.empty there));
    }) c.begin.ensures.rests

pub returns-then-is_empty-clause-refused : goal.returns-then-is_empty-clause-refused
returns-then-is_empty-clause-refused g c =
    let bytes = c.in-Ok.bytes in
    let empty : bytes.items ≡ [] = grind (arith, common_steps) in
    not_begun g.L.Stored.reads g.R.Stored.reads c.args.disk.now c.read.new.self bytes c.in-Ok.ensures.found c.begin.new.disk c.begin.result empty
    (c.begin.ensures.any_moment c.args.disk.now bytes c.in-Ok.ensures.found empty) c.begin.ensures.cause

pub returns-in-Ok-repair-clause-opened : goal.returns-in-Ok-repair-clause-opened
returns-in-Ok-repair-clause-opened g c =
    let bytes = c.in-Ok.bytes in
    let read = c.in-Ok-replay.ensures.read in
    let has : HasLines bytes.items read.texts = subst (λ file. HasLines file read.texts) c.deref.ensures.value read.has in
    let rests = found_rests c.args.disk.now c.read.new.self bytes c.in-Ok-replay.end read.texts c.in-Ok.ensures.found has read.at_end in
    record {
      found = bytes;
      texts = read.texts;
      has = inl has;
      any_moment = found_leaves c.args.disk.now c.read.new.self c.repair.new.disk bytes read.texts c.in-Ok.ensures.found (c.in-Ok-repair.ensures.any_moment read.texts rests);
      rests = c.in-Ok-repair.ensures.at_rest read.texts rests;
      kept = read.kept;
    }

pub returns-in-Ok-replay-clause-refused : goal.returns-in-Ok-replay-clause-refused
returns-in-Ok-replay-clause-refused g c =
    let bytes = c.in-Ok.bytes in
    let read = c.in-Ok-replay.ensures.read in
    let has : HasLines bytes.items read.texts = subst (λ file. HasLines file read.texts) c.deref.ensures.value read.has in
    let rests = found_rests c.args.disk.now c.read.new.self bytes c.in-Ok-replay.end read.texts c.in-Ok.ensures.found has read.at_end in
    inr (record {
      found = bytes;
      texts = read.texts;
      has = inl has;
      any_moment = found_leaves c.args.disk.now c.read.new.self c.repair.new.disk bytes read.texts c.in-Ok.ensures.found (c.in-Err-repair.ensures.any_moment read.texts rests);
      failed = c.in-Err-repair.ensures.cause;
    })

pub returns-clause-refused : goal.returns-clause-refused
returns-clause-refused g c =
    not_read g.L.Stored.reads g.R.Stored.reads c.args.disk.now c.read.new.self c.in-Ok.bytes c.in-Ok.ensures.found c.in-Err-replay.fault
    (subst (λ file. IsFileFault g.L.Stored.reads g.R.Stored.reads file c.in-Err-replay.fault) c.deref.ensures.value c.in-Err-replay.ensures.fault)
