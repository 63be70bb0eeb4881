-- `into_parts` moves two fields, and what they own goes with them.
use Rattle.bimap_c.proofs.Steps.{sym, refl, subst, List, [], ◌∷◌, ◌++◌, Option, IsSome, Val, SProp, ent, id⊢, ftrue, fsep, WpFn, tables, fact, ‵, raw, ◌⊛◌, ◌$◌, ◌∵◌, !, qed, move, drop, use1, join, split, fsplit, fjoin, rewrite, suffices, done, whole, sub, agg, stop, fld, no_more, and_then, of_opd, returns, enter, alloc_all, pass_all, free_all, look_at, get, get_in, sets, yes, type_at, plain, nothing, heard, says, Stays, stay_dropped, walk_of, ends_at, Goes-dropped, proved_at, D, B, word, box_typed, box_out, box_in}
use Rattle.bimap_base.proofs.Walk.{some_at}
use Rattle.bimap_c.proofs.TableAsBox.{E}
use Rattle.bimap_c.specs.contracts.table_pointer.TablePointer as Held
use Rattle.bimap_c.specs.contracts.c_table.CTable as Table
use Rattle.bimap_c.specs.contracts.table_pointer.TablePointer.into_parts as F
use Rattle.bimap_c.specs.contracts.table_pointer.TablePointer.into_parts.Key.{name as #self}
use Rattle.bimap_c.proofs.table_pointer.TablePointer.into_parts.Statement.{statement}
use Rattle.bimap_c.proofs.table_pointer.TablePointer.into_parts.Code as code

pub into_parts_spec : {M : Type 1} → statement M
into_parts_spec 𝓤 𝓛 𝓜 𝓡 wired =
    let H = 𝓛.H in let 𝓣 = tables 𝓤 H 𝓜 𝓡 𝓡.env in let c = F.clauses 𝓛 𝓜.mem 𝓡.returns in let hs : Stays F.ended.signature.params F.ended.kept = (stay_dropped (plain (λ _. Held.the_row)) yes, tt) in
    proved_at 𝓛 F.ended hs c 𝓜 𝓡 (Goes-dropped 𝓛 0 (plain (λ _. Held.the_row)) yes (λ κs x f. refl), tt) #self code.function (code.unfolded 𝓤 H 𝓜 𝓡 wired) (λ z are.
    let s = z.0.3.0 in let Run : List Val → SProp 𝓤 = λ us. WpFn 𝓤 H 𝓣.C 𝓣.Λ code.function us ((walk_of 𝓛 F.ended hs c).post z) in
    qed 𝓛 ((‵ ftrue ⊛ ‵ (fsep (Held.the_row.own_val s z.0.4.0) ftrue)) ∷ raw (fact 𝓤 (IsSome s.value)) ∷ []) ∵ move ! (1 ∷ []) $ heard ! (IsSome s.value) (λ is. let found = some_at s.value is in
    let v : D E = record { ptr = s.at; alloc = s.alloc; value = found.0 } in let To = type_at F.signature.result tt in let made : To.Denot = record { at = v.ptr; alloc = v.alloc; value = v.value } in
    split ! $ drop ! $ fsplit ! $ rewrite ! 0 (λ (o : Option (Table.the_row).Denot). ‵ (Held.the_row.own_val (record { at = s.at; alloc = s.alloc; value = o }) z.0.4.0)) found.1 refl $ use1 𝓛 (‵ ((B E).own_val v z.0.4.0)) (id⊢ 𝓤 _) $
    box_out E ! v z.0.4.0 (λ b o hv e ws fa. box_in E ! v b o v.value e refl $ let w = word E hv b o in use1 𝓛 (‵ (To.own_val made (w ∷ []))) (id⊢ 𝓤 _) $ move ! (1 ∷ []) $ drop ! $
    suffices ! (Run (w ∷ [])) (subst (λ (us : List Val). ent 𝓤 (Run (w ∷ [])) (Run us)) (sym (λ i. ws i ++ [])) (id⊢ 𝓤 (Run (w ∷ [])))) $
    enter ! 𝓣.C 𝓣.Λ code.function (w ∷ []) _ $ alloc_all ! (λ ls. pass_all ! refl (box_typed E hv b o fa, tt) $
    sets ! (of_opd ! (get_in ! (fld ! refl (stop !)) (sub ! 0 refl (whole !)))) refl (tt, tt) $ sets ! (of_opd ! (get_in ! (fld ! refl (stop !)) (sub ! 1 refl (whole !)))) refl fa $
    sets ! (of_opd ! (get ! refl)) refl (tt, tt) $ sets ! (agg ! (and_then ! (get ! refl) (and_then ! (get ! refl) (no_more !)))) refl (box_typed E hv b o fa) $ returns ! (look_at ! 0 refl) $ free_all ! refl $
    suffices ! _ (ends_at 𝓛 F.ended hs c z w made (tt, tt) (tt, tt)) $ says ! found.1 $
    nothing ! $ nothing ! $ fjoin ! $ join ! $ nothing ! $ join ! $ done !))))
