use Rattle.std.proofs.Common.{inr, sym, ap, subst, Contains, string_bytes, arith}
use Rattle.serde_json.specs.Data.{unsigned}
use Rattle.serde_json.specs.View.{view}
use Rattle.bimap_c.specs.Bytes.{IsCopiedOut}
use Rattle.bimap_c.proofs.Texts.{shallow}
use Rattle.bimap_c.proofs.json.write_json.Goals as goal

pub returns-clause-told : goal.returns-clause-told
returns-clause-told g c =
    let object = c.in-Ok.ensures.object in
    let flat = shallow (view c.in-Ok.value) object.has.members object.has.is_object (λ e m.
    let written = (object.exactly e).0 (subst (λ es. Contains es e) (sym object.has.are) m) in
    (unsigned written.0.1, ap (λ x. x.1) written.2)) in
    inr (string_bytes c.in-Ok-to_string.text, (view c.in-Ok.value, c.in-Ok-to_string.ensures.reads_back (omega (arith, flat)), object), subst (λ text. IsCopiedOut text c.copy_out.result c.args.buf.now c.copy_out.new.buf c.copy_out.new.len) c.as_bytes.ensures.value c.copy_out.ensures.out)
