-- `empty` makes a table pointer that owns nothing.
use Rattle.bimap_c.proofs.Steps.{sym, refl, subst, List, [], ◌∷◌, ◌++◌, None, Val, vint, w64, SProp, ent, emp, id⊢, ftrue, fsep, WpFn, tables, ‵, raw, ◌⊛◌, ◌$◌, ◌∵◌, !, qed, move, drop, join, split, fsplit, fjoin, fpack, feq_i, suffices, done, agg, lit, no_more, and_then, returns, enter, alloc_all, pass_all, free_all, look_at, get, sets, yes, type_at, plain, nothing, null_ptr, RawPtr, Valss, within, shape, lit<, and_tt, handle_tells, says, Stays, stay_dropped, walk_of, ends_at, Goes-dropped, proved_at}
use Rattle.bimap_c.proofs.Values.{both}
use Rattle.bimap_c.proofs.TableAsBox.{E}
use Rattle.bimap_c.specs.contracts.table_pointer.TablePointer as Held
use Rattle.bimap_c.specs.contracts.table_pointer.TablePointer.empty as F
use Rattle.bimap_c.specs.contracts.table_pointer.TablePointer.empty.Key.{name as #self}
use Rattle.bimap_c.proofs.table_pointer.TablePointer.empty.Statement.{statement}
use Rattle.bimap_c.proofs.table_pointer.TablePointer.empty.Code as code

pub empty_spec : {M : Type 1} → statement M
empty_spec 𝓤 𝓛 𝓜 𝓡 wired =
    let H = 𝓛.H in let 𝓣 = tables 𝓤 H 𝓜 𝓡 𝓡.env in let c = F.clauses 𝓛 𝓜.mem 𝓡.returns in let hs : Stays F.ended.signature.params F.ended.kept = (stay_dropped (plain (λ _. E.al.row)) yes, tt) in
    proved_at 𝓛 F.ended hs c 𝓜 𝓡 (Goes-dropped 𝓛 0 (plain (λ _. E.al.row)) yes (λ κs x f. refl), tt) #self code.function (code.unfolded 𝓤 H 𝓜 𝓡 wired) (λ z are.
    let a = z.0.3.0 in let To = type_at F.signature.result tt in let made : To.Denot = record { at = null_ptr; alloc = a; value = None } in
    let Run : List Val → SProp 𝓤 = λ us. WpFn 𝓤 H 𝓣.C 𝓣.Λ code.function us ((walk_of 𝓛 F.ended hs c).post z) in
    qed 𝓛 ((‵ ftrue ⊛ ‵ (fsep (E.al.row.own_val a z.0.4.0) ftrue)) ∷ raw (emp 𝓤) ∷ []) ∵ split ! $ drop ! $ fsplit ! $
    handle_tells E.al ! a z.0.4.0 (λ h ea fits. move ! (1 ∷ 2 ∷ []) $ drop ! $ drop ! $ let w = both (vint w64 0) h in
    suffices ! (Run (h ∷ [])) (subst (λ (us : List Val). ent 𝓤 (Run (h ∷ [])) (Run us)) (sym (λ i. ea i ++ [])) (id⊢ 𝓤 (Run (h ∷ [])))) $
    enter ! 𝓣.C 𝓣.Λ code.function (h ∷ []) _ $ alloc_all ! (λ ls. pass_all ! refl (fits, tt) $
    sets ! (agg ! (and_then ! (lit ! tt) (and_then ! (get ! refl) (no_more !)))) refl (and_tt _ fits.0, (record { fits = lit< tt }, (fits.1, tt))) $ returns ! (look_at ! 0 refl) $ free_all ! refl $
    suffices ! _ (ends_at 𝓛 F.ended hs c z w made (tt, tt) (tt, tt)) $ says ! refl $
    nothing ! $ nothing ! $ move ! (2 ∷ 0 ∷ []) $ fjoin ! $ feq_i ! (List Val) (vint w64 0 ∷ []) (vint w64 0 ∷ []) refl $ fjoin ! $ feq_i ! (List Val) (w ∷ []) (w ∷ []) refl $ fjoin ! $
    fpack ! (Valss (RawPtr ∷ E.al.row ∷ [])) (within (shape Held.the_type) (null_ptr, (((a.memory.seal, tt), tt), tt)) (w ∷ [])) (vint w64 0 ∷ [], (h ∷ [], tt)) $ fjoin ! $
    nothing ! $ nothing ! $ fjoin ! $ join ! $ nothing ! $ join ! $ done !)))
