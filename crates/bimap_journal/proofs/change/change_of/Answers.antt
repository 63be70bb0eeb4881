use Rattle.std.proofs.Common.{rules, arith, ◌≡◌, ◌≢◌, ◌∙◌, codes, ap}
use Rattle.std.specs.Cmp.Lexicographic.{same_text, other_text}
use Rattle.serde_json.specs.Data.{array, item, string}
use Rattle.serde_json.specs.View.{view, items_view}
use Rattle.bimap_journal.proofs.Values.{insert_fault, left_fault, right_fault, no_change, none_is, some_are}
use Rattle.std.proofs.lemmas.Grind.{common_steps}
use Rattle.bimap_journal.proofs.change.change_of.Goals.{else-eq-4-via-then-eq-4+else-is_empty, else-eq-4-via-else-eq-4}
use Rattle.bimap_journal.proofs.change.change_of.Goals as goal

pub returns-in-Err : goal.returns-in-Err
returns-in-Err g c =
    let named : c.in-Some.name.now ≡ codes "insert" = same_text _ _ c.if-eq.ensures in
    insert_fault g.L.Stored.reads g.R.Stored.reads (view c.args.value.now) c.in-Some.name.now (items_view c.in-Some.values.now) c.in-Some.ensures.some named c.in-Err.fault c.in-Err.ensures

pub returns-in-Err-one : goal.returns-in-Err-one
returns-in-Err-one g c =
    let named : c.in-Some.name.now ≡ codes "remove_by_left" = same_text _ _ c.if-eq-2.ensures in
    left_fault g.L.Stored.reads g.R.Stored.reads (view c.args.value.now) c.in-Some.name.now (items_view c.in-Some.values.now) c.in-Some.ensures.some named c.in-Err-one.fault c.in-Err-one.ensures

pub returns-in-Err-one-2 : goal.returns-in-Err-one-2
returns-in-Err-one-2 g c =
    let named : c.in-Some.name.now ≡ codes "remove_by_right" = same_text _ _ c.if-eq-3.ensures in
    right_fault g.L.Stored.reads g.R.Stored.reads (view c.args.value.now) c.in-Some.name.now (items_view c.in-Some.values.now) c.in-Some.ensures.some named c.in-Err-one-2.fault c.in-Err-one-2.ensures

pub returns-then-is_empty : goal.returns-then-is_empty
returns-then-is_empty g c =
    let named : c.in-Some.name.now ≡ codes "clear" = same_text _ _ c.if-eq-4.ensures in
    let none = none_is c.in-Some.values.now (search rules) in
    c.in-Some.ensures.some ∙ ap (λ name. array (item (string name) (items_view c.in-Some.values.now))) named ∙ ap (λ values. array (item (string (codes "clear")) values)) none

pub returns : goal.returns
returns g c =
    let a : c.in-Some.name.now ≢ codes "insert" = other_text _ _ c.if-eq.ensures in
    let b : c.in-Some.name.now ≢ codes "remove_by_left" = other_text _ _ c.if-eq-2.ensures in
    let d : c.in-Some.name.now ≢ codes "remove_by_right" = other_text _ _ c.if-eq-3.ensures in
    no_change g.L.Stored.reads g.R.Stored.reads (view c.args.value.now) c.in-Some.name.now (items_view c.in-Some.values.now) c.in-Some.ensures.some a b d (λ named none.
    let long = some_are c.in-Some.values.now none in
    elim c.else-eq-4.branch [
      | else-eq-4-via-then-eq-4+else-is_empty w ↦ let h = w.if-is_empty.ensures in grind (arith, common_steps)
      | else-eq-4-via-else-eq-4 w ↦ other_text _ _ w.if-eq-4.ensures named
    ])
