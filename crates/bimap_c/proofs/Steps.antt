-- Lemmas for the proofs of a raw box and of a table pointer.
pub use Rattle.std.proofs.Common.{◌≡◌, ℕ, List, [], ◌∷◌, ◌++◌, refl, subst, sym, ap, ◌∙◌}
pub use base.Fml.{ftrue, fsep, flft}
pub use base.Logic.{never, fst∗, SProp, ent, emp, id⊢}
pub use contract.BorrowLft.{◌⊑◌}
pub use contract.Monad.{fact, fact_i}
pub use contract.Running.{tables}
pub use denote.Builtin.{RawPtr}
pub use denote.Exit.{no, yes}
pub use denote.Memory.{lone}
pub use denote.Param.{layout, param, bounded}
pub use denote.Param.Laws.{Laws, param_laws}
pub use denote.RattleType.{RattleType, Valss, owns}
pub use denote.RawPtr.{Ptr, block_ptr, null_ptr, ptr_val, in_a_block}
pub use denote.Signature.{types_at, plain, type_at}
pub use denote.Steps.{nothing, only, heard}
pub use denote.Struct.Owning.{shape}
pub use denote.Struct.Struct.{within}
pub use denote.Struct.Tuple.{Tuple}
pub use denote.Triple.Call.{calls_at, calls_at_last}
pub use denote.Triple.Clauses.{Lasts, lasts}
pub use denote.Triple.Spec.{triple_of}
pub use denote.Triple.Table.{framed}
pub use denote.Triple.Walked.{Stays, stay_dropped, walk_of, says, ends_at, Goes-dropped}
pub use lib.Dec.{T, lit<}
pub use mathlib.Core.Bool.{Bool, true, false, ◌&&◌}
pub use mir.MapTy.{inst_fn}
pub use mir.Syntax.{impl, tnil, dnil, a_type, dcons, w64}
pub use mir.Val.{Val, vptr, vstruct, vcons, vnil, of_list, has_ty, WT, vint}
pub use prog.Wp.{WpFn}
pub use seplogic.Ra.Ura.{Ura}
pub use types.ByLocal.{alloc_all, pass_all, free_all, look_at, get, get_in, sets, lands_as, lands_last, env}
pub use types.Kit.{Item, Goal, Seq, Step, step, ‵, ◌$◌, move, drop, fsplit, fjoin, fpick, fpack, feq_i, feq_l, raw, ◌⊛◌, some, later, ◌∵◌, !, qed, by, keep, split, split3, join, pick, suffices, use0, use1, await, rewrite, at_ret, done}
pub use types.Logic.{Logic, sem}
pub use types.Part.{agg, sub, whole}
pub use types.Run.{stop, fld, of_opd, no_more, and_then, returns, enter, first, blocks, exec, lit}
pub use Rattle.std.proofs.BoxSteps.Form.{D, B, word, box_typed}
pub use Rattle.std.proofs.BoxSteps.Steps.{box_out, box_in}
pub use Rattle.std.proofs.ResultValues.{and_tt}
pub use Rattle.std.proofs.alloc.Calls.{Al, handle_tells, Goes-blank}
pub use Rattle.std.proofs.alloc.Shapes.{after}
pub use Rattle.std.proofs.cell.Inside.{Good}
pub use Rattle.std.proofs.raw_atomic.Walks.{proved_at, leaves}
pub use Rattle.std.specs.Box.Ownership.{box_owns}
pub use Rattle.std.specs.Prelude.{None, Option, IsSome, Some}
pub use Rattle.std.specs.declared.alloc.Allocator.{Ghosts}
