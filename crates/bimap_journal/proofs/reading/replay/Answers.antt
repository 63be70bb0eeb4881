use Rattle.std.proofs.Common.{arith, true≢false, ◌≡◌, ◌∙◌, ◌++◌, ◌∷◌, [], ap, sym, subst, refl, length, take, drop, ◌-◌}
use Rattle.std.specs.Prelude.{Contains}
use Rattle.std.proofs.lemmas.Bool.Decides.{Decides-eqb}
use Rattle.std.proofs.lemmas.List.{length-append, length-drop}
use Rattle.std.proofs.lemmas.List.Elements.{All-push}
use Rattle.std.proofs.lemmas.Slice.Eq.{starts_is}
use Rattle.bimap_base.proofs.Members.{none_in}
use Rattle.bimap_journal.specs.Lines.{name, header, lines}
use Rattle.bimap_journal.proofs.Kept.{kept_none}
use Rattle.bimap_journal.proofs.Parsed.{take_all, long_line, one_more, line_fault}
use Rattle.bimap_journal.proofs.reading.replay.Goals as goal

pub returns-then-starts_with-clause-fault : goal.returns-then-starts_with-clause-fault
returns-then-starts_with-clause-fault g c =
    let bytes = c.args.bytes.now in (
      (drop 17 bytes, (starts_is Decides-eqb bytes name _ c.if-starts_with.ensures.value).0 refl),
      λ begins. true≢false (sym ((starts_is Decides-eqb bytes header _ c.if-not-starts_with.ensures.value).1 begins.0 begins.1)),
    )

pub loop-lines-init : goal.loop-lines-init
loop-lines-init g c =
    let bytes = c.args.bytes.now in
    let begins : bytes ≡ header ++ drop 19 bytes = (starts_is Decides-eqb bytes header _ c.if-not-starts_with.ensures.value).0 refl in
    let all : take (length bytes - 19) (drop 19 bytes) ≡ drop 19 bytes = take_all (drop 19 bytes) (length bytes - 19) (length-drop 19 bytes) in
    record {
      texts = [];
      is = begins ∙ ap (λ xs. header ++ xs) (sym all);
      unbroken = λ k d inside. absurd (omega (arith, inside));
      kept = kept_none g.L.Stored.reads g.R.Stored.reads g.L.PartialEq.eq g.R.PartialEq.eq g.met.L.Eq.laws g.met.R.Eq.laws _
          (λ p there. none_in p (subst (λ l. Contains l p) c.requires.empty there));
    }

pub overflow_sub-at : goal.overflow_sub-at
overflow_sub-at g c =
    let k = c.loop-lines.invariant in
    let long = ap length k.is ∙ length-append (header ++ lines k.texts) c.loop-lines.rest.now in
    omega (arith, long)

pub loop-lines-smaller : goal.loop-lines-smaller
loop-lines-smaller g c = long_line c.loop-lines.rest.now c.in-Line.text.now c.in-Line.behind.now c.in-Line.ensures.0

pub loop-lines-preserved : goal.loop-lines-preserved
loop-lines-preserved g c =
    let k = c.loop-lines.invariant in
    let text = c.in-Line.text.now in
    let behind = c.in-Line.behind.now in
    record {
      texts = k.texts ++ text ∷ [];
      is = k.is ∙ ap (λ xs. header ++ lines k.texts ++ xs) c.in-Line.ensures.0 ∙ one_more k.texts text behind;
      unbroken = All-push (λ t. ¬ Contains t 10) k.texts text k.unbroken c.in-Line.ensures.1;
      kept = c.in-Ok.ensures.made k.texts k.kept;
    }

pub returns-in-End-clause-read : goal.returns-in-End-clause-read
returns-in-End-clause-read g c =
    let k = c.loop-lines.invariant in
    let long = ap length k.is ∙ length-append (header ++ lines k.texts) c.loop-lines.rest.now in
    record {
      texts = k.texts;
      has = record { rest = c.in-End.ensures.0; is = k.is ∙ ap (λ xs. header ++ lines k.texts ++ xs) c.in-End.ensures.1; unbroken = k.unbroken };
      at_end = omega (arith, long);
      kept = k.kept;
    }

pub returns-in-Damaged-clause-fault : goal.returns-in-Damaged-clause-fault
returns-in-Damaged-clause-fault g c =
    let k = c.loop-lines.invariant in
    let long = ap length k.is ∙ length-append (header ++ lines k.texts) c.loop-lines.rest.now in
    record {
      texts = k.texts;
      changes = k.kept.is_read.0;
      rest = c.loop-lines.rest.now;
      is = k.is;
      place = omega (arith, long);
      unbroken = k.unbroken;
      read = k.kept.is_read.1;
      no_end = c.in-Damaged.ensures.0;
      no_line = λ text behind change is none reads. c.in-Damaged.ensures.1 text behind is;
    }

pub returns-in-Err-clause-fault : goal.returns-in-Err-clause-fault
returns-in-Err-clause-fault g c =
    let k = c.loop-lines.invariant in
    let long = ap length k.is ∙ length-append (header ++ lines k.texts) c.loop-lines.rest.now in
    line_fault g.L.Stored.reads g.R.Stored.reads c.args.bytes.now k.texts k.kept.is_read.0 c.loop-lines.rest.now c.in-Line.text.now c.in-Line.behind.now _ c.in-Err.fault
    k.is (omega (arith, long)) k.unbroken k.kept.is_read.1 c.in-Line.ensures.0 c.in-Line.ensures.1 c.in-Err.ensures.fault
