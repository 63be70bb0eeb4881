use Rattle.std.proofs.Common.{◌+◌, ◌++◌, ◌∙◌, inl, inr, refl, sym, subst, length, map, arith}
use Rattle.std.proofs.lemmas.List.{length_push, length-append, map-append}
use Rattle.std.proofs.lemmas.Iterator.Consumers.{YieldsList-end}
use Rattle.std.specs.Iterator.{AlwaysYields}
use Rattle.std.specs.Map.Iter.{deref_pair}
use Rattle.bimap_c.specs.Packed.{bytes_of}
use Rattle.bimap_c.proofs.Packing.{first_packed, next_too_long, first_too_long, one_packed, none_packed}
use Rattle.bimap_c.proofs.fill.pack_rows.Goals.{in-None, in-Some+then-count-rows, in-Some+else-count-rows+in_default+else-count-eq0}
use Rattle.bimap_c.proofs.fill.pack_rows.Goals as goal

pub returns-then-count-eq0-clause-packed : goal.returns-then-count-eq0-clause-packed
returns-then-count-eq0-clause-packed g c pairs gives =
    let i = c.loop-left.invariant in
    let none = none_packed g.R.RightOfRow.row_of (bytes_of g.R.RightOfRow.right_bytes) (map deref_pair c.loop-left.yielded) c.args.rows.now c.loop-left.rows c.loop-left.count c.args.buf.now c.loop-left.buf c.loop-left.used i.packed (omega (arith, c.if-count-eq0.true)) in
    let size = sym (length-append c.as_slice-first.result.now c.as_bytes-second.result.now) in
    inr (
      refl,
      first_too_long g.W.Iterator.next_gives deref_pair g.R.RightOfRow.row_of (bytes_of g.R.RightOfRow.right_bytes) c.into_iter-left-iterator.result c.loop-left.left-iterator pairs c.loop-left.yielded
          (subst (λ w. AlwaysYields g.W.Iterator.next_gives deref_pair w pairs) (sym c.into_iter-left-iterator.ensures.into_iter_gives) gives) c.loop-left.yielded_by
          (c.in-Some.left, c.in-Some.right) c.next.new.self c.in-Some.ensures.steps (length c.args.rows.now) (length c.args.buf.now) _ (omega (arith, i.count, c.if-count-eq0.true)) (grind (arith, c.if-count-rows.false, c.if-count-eq0.true, c.loop-left.auto.rows))
          (size ∙ rw (c.as_slice-first.ensures.value, c.as_bytes-second.ensures) refl) (omega (arith, size, none.2, c.in_default.ensures.1, c.loop-left.auto.buf)),
    )

pub returns-then-count-eq0-clause-rows : goal.returns-then-count-eq0-clause-rows
returns-then-count-eq0-clause-rows g c k =
    (none_packed g.R.RightOfRow.row_of (bytes_of g.R.RightOfRow.right_bytes) (map deref_pair c.loop-left.yielded) c.args.rows.now c.loop-left.rows c.loop-left.count c.args.buf.now c.loop-left.buf c.loop-left.used c.loop-left.invariant.packed (omega (arith, c.if-count-eq0.true))).0

pub returns-then-count-eq0-clause-buf : goal.returns-then-count-eq0-clause-buf
returns-then-count-eq0-clause-buf g c k =
    c.in_default.ensures.0 ∙ (none_packed g.R.RightOfRow.row_of (bytes_of g.R.RightOfRow.right_bytes) (map deref_pair c.loop-left.yielded) c.args.rows.now c.loop-left.rows c.loop-left.count c.args.buf.now c.loop-left.buf c.loop-left.used c.loop-left.invariant.packed (omega (arith, c.if-count-eq0.true))).1

pub loop-left-preserved : goal.loop-left-preserved
loop-left-preserved g c =
    let i = c.loop-left.invariant in
    let goes = c.in-Some.ensures.goes.on i.ends in
    let put = c.in-Some-put_both.ensures in
    record {
      can = goes.0;
      ends = goes.1;
      count = omega (arith, i.count, length_push c.loop-left.yielded (c.in-Some.left, c.in-Some.right));
      packed =
          one_packed g.R.RightOfRow.row_of (bytes_of g.R.RightOfRow.right_bytes) (map deref_pair c.loop-left.yielded) _ (c.in-Some.left.now, c.in-Some.right.now) c.args.rows.now c.loop-left.rows c.loop-left.count c.to_row.result c.args.buf.now c.loop-left.buf c.put_both.new.buf (c.as_slice-first.result.now ++ c.as_bytes-second.result.now) c.loop-left.used c.in-Some-put_both.end
          i.packed (grind (arith, c.if-count-rows.false, i.packed.rows_there, c.loop-left.auto.rows)) (map-append deref_pair c.loop-left.yielded _) c.to_row.ensures (rw (c.as_slice-first.ensures.value, c.as_bytes-second.ensures) refl) put.0 (omega (arith, put.1, c.loop-left.auto.buf)) put.2;
    }

pub returns : goal.returns
returns g c = record {
  packed = λ pairs gives.
      let i = c.loop-left.invariant in
      let all = subst (λ w. AlwaysYields g.W.Iterator.next_gives deref_pair w pairs) (sym c.into_iter-left-iterator.ensures.into_iter_gives) gives in
      let are = first_packed g.W.Iterator.next_gives deref_pair g.R.RightOfRow.row_of (bytes_of g.R.RightOfRow.right_bytes) c.into_iter-left-iterator.result c.loop-left.left-iterator pairs c.loop-left.yielded all c.loop-left.yielded_by c.args.rows.now c.loop-left.rows c.loop-left.count c.args.buf.now c.loop-left.buf c.loop-left.used i.count i.packed in
      elim c.match-next.branch [
        | in-None w ↦
            let ends = YieldsList-end {steps = g.W.Iterator.next_gives} {v = deref_pair} (record { runs = all }) c.loop-left.yielded c.loop-left.left-iterator c.loop-left.yielded_by _ _ refl w.in-None.ensures.steps in
            inl (refl, rw w.buf-is are, λ l m. omega (arith, ends.1, i.count, m))
        | in-Some+then-count-rows w ↦ inl (refl, rw w.buf-is are, λ l m. grind (arith, w.if-count-rows.true, c.loop-left.auto.rows, l))
        | in-Some+else-count-rows+in_default+else-count-eq0 w ↦
            inl (
              refl,
              rw (w.buf-is, w.in_default.ensures.0) are,
              λ l m. next_too_long g.W.Iterator.next_gives deref_pair g.R.RightOfRow.row_of (bytes_of g.R.RightOfRow.right_bytes) c.into_iter-left-iterator.result c.loop-left.left-iterator pairs c.loop-left.yielded all c.loop-left.yielded_by (w.in-Some.left, w.in-Some.right) c.next.new.self w.in-Some.ensures.steps c.loop-left.count c.loop-left.used (length c.args.buf.now) i.count i.packed.size
                  (w.as_slice-first.result.now ++ w.as_bytes-second.result.now) (rw (w.as_slice-first.ensures.value, w.as_bytes-second.ensures) refl) (omega (arith, w.in_default.ensures.1, c.loop-left.auto.buf)),
            )
      ];
  rows = λ k. absurd (k refl);
  buf = λ k. absurd (k refl);
  len = λ k l. absurd (k refl);
  filled = λ k. absurd (k refl);
}
