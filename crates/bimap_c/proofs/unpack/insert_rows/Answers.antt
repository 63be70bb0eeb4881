use Rattle.std.proofs.Common.{◌≡◌, ◌≤◌, ◌++◌, ◌+◌, ◌∙◌, [], refl, ap, length, sum_by, arith}
use Rattle.bimap_c.specs.Bytes.{kept}
use Rattle.bimap_c.specs.Packed.{bytes_of}
use Rattle.bimap_c.proofs.Unpacking.{both_slices, one_taken, one_row_more, row_within}
use Rattle.bimap_c.proofs.unpack.insert_rows.Goals as goal

pub loop-at-init : goal.loop-at-init
loop-at-init g c = record {
  taken = record { is = record { pairs = []; first = record { first_rows = refl; first_bytes = refl }; put = refl; count = refl }; size = refl };
  used = refl;
}

pub loop-at-preserved : goal.loop-at-preserved
loop-at-preserved g c =
    let i = c.loop-at.invariant in
    let l = c.lens-left in
    let put = c.insert_row.ensures.inserted c.if-not-insert_row.false in
    let size = g.R.RightOfRow.row_len in
    let more = one_row_more size c.args.rows.now c.loop-at.at c.index-rows-at.result c.loop-at-test.true c.index-rows-at.is in
    let fits : c.loop-at.from + (l.result.0 + l.result.1) ≤ length c.args.bytes.now = omega (arith, c.requires, i.used, l.ensures.both, row_within size c.args.rows.now c.loop-at.at c.index-rows-at.result c.loop-at-test.true c.index-rows-at.is) in
    record {
      taken =
          one_taken g.R.PartialEq.eq g.R.RightOfRow.row_of (bytes_of g.R.RightOfRow.right_bytes) (kept g.B.Bijection.holding c.args.table.now) (kept g.B.Bijection.holding c.loop-at.table) (kept g.B.Bijection.holding c.insert_row.new.table) c.args.rows.now c.args.bytes.now
          c.loop-at.at c.loop-at.from _ (l.result.0 + l.result.1) c.index-rows-at.result put.0 i.taken c.loop-at-test.true c.index-rows-at.is put.1 (put.2 ∙ both_slices c.args.bytes.now c.loop-at.from l.result.0 l.result.1) fits (omega arith) put.3;
      used = omega (arith, more, i.used, l.ensures.both);
    }
