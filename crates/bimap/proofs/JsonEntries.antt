-- The entries of an object: that their keys ascend, and what an insertion does to them.
use Rattle.std.proofs.Common.{◌≡◌, ◌↔◌, ◌⊎◌, inl, inr, ℕ, List, [], ◌∷◌, ◌++◌, map, refl, sym, ap, subst, ◌∙◌, Ordering, Less, Equal, Greater, String, Global, string_cmp, string_bytes, Some}
use Rattle.std.specs.Prelude.{Contains}
use Rattle.std.specs.List.{AllByRecursion}
use Rattle.std.specs.List.Sorted.{IsStrictlySortedBy}
use Rattle.std.specs.Ordering.{nat_cmp, match_ordering, ordering_reverse}
use Rattle.std.specs.Cmp.Lexicographic.{slice_cmp}
use Rattle.std.proofs.lemmas.Cmp.{nat_list_cmp_total, tied_itself}
use Rattle.std.proofs.lemmas.Map.Lookups.{exact_bytes}
use Rattle.std.specs.Map.{keys_of}
use Rattle.serde_json.specs.Data.{Data, Members, no_members, member, put}
use Rattle.serde_json.proofs.Views.{get_member-put, get_member-put_other}
use Rattle.serde_json.specs.Find.{as_object, get_member}
use Rattle.serde_json.specs.View.{members_view}
use Rattle.serde_json.specs.declared.value.Value.{Value}
use Rattle.bimap_base.proofs.Members.{head_in, more_in, cases_in, none_in}
use Rattle.bimap.specs.JsonObjects.{Entry, entries_of, Ascends, HasEntries}

-- The key `k` is below each of these keys.
abbrev pub IsBelow : List ℕ → List Entry → Type 0
IsBelow k entries = AllByRecursion (λ l. slice_cmp nat_cmp k l ≡ Less) (map (λ e. e.0) entries)

same_text : (k : List ℕ) → slice_cmp nat_cmp k k ≡ Equal
same_text k = tied_itself nat_list_cmp_total k

-- No key is below itself.
not_below : (k l : List ℕ) → slice_cmp nat_cmp k l ≡ Less → l ≡ k → ⊥
not_below k l is e = let t = same_text k in let f = ap (slice_cmp nat_cmp k) e in absurd (cc)

not_above : (k l : List ℕ) → slice_cmp nat_cmp k l ≡ Greater → k ≡ l → ⊥
not_above k l is e = let t = same_text k in let f = ap (slice_cmp nat_cmp k) e in absurd (cc)

pub below_each : (k : List ℕ) (entries : List Entry) (e : Entry) → IsBelow k entries → Contains entries e → slice_cmp nat_cmp k e.0 ≡ Less
below_each k [] e below c = none_in e c
below_each k (f ∷ fs) e below c =
    elim (cases_in f fs e c) [
      | inl same ↦ ap (λ g. slice_cmp nat_cmp k g.0) (sym same) ∙ below.0
      | inr later ↦ below_each k fs e below.1 later
    ]

pub other_key : (k : List ℕ) (entries : List Entry) (e : Entry) → IsBelow k entries → Contains entries e → e.0 ≡ k → ⊥
other_key k entries e below c same = not_below k e.0 (below_each k entries e below c) same

-- What is found under a key is an entry.
found : (k : List ℕ) (d : Data) (ms : Members) → get_member k ms ≡ Some d → Contains (entries_of ms) (k, d)
found k d no_members is = absurd (cc)
found k d (member l e ms) is = by (slice_cmp nat_cmp k l) refl is (found k d ms)
  where
    by : (o : Ordering) → slice_cmp nat_cmp k l ≡ o → match_ordering o (get_member k ms) (Some e) (get_member k ms) ≡ Some d → (get_member k ms ≡ Some d → Contains (entries_of ms) (k, d)) → Contains ((l, e) ∷ entries_of ms) (k, d)
    by Less o is rest = more_in (l, e) (entries_of ms) (k, d) (rest is)
    by Equal o is rest =
        let value : e ≡ d = cc in
        subst (Contains ((l, e) ∷ entries_of ms)) (λ i. (sym (exact_bytes k l o) i, value i)) (head_in (l, e) (entries_of ms))
    by Greater o is rest = more_in (l, e) (entries_of ms) (k, d) (rest is)

-- If the keys of the entries ascend, each entry is found.
is_found : (ms : Members) → Ascends (entries_of ms) → (x : Entry) → Contains (entries_of ms) x → get_member x.0 ms ≡ Some x.1
unfolding IsStrictlySortedBy
is_found no_members up x c = none_in x c
is_found (member l e ms) up x c =
    elim (cases_in (l, e) (entries_of ms) x c) [
      | inl same ↦ subst (λ y. get_member y.0 (member l e ms) ≡ Some y.1) same (ap (λ o. match_ordering o (get_member l ms) (Some e) (get_member l ms)) (same_text l))
      | inr later ↦
          let above : slice_cmp nat_cmp x.0 l ≡ Greater = nat_list_cmp_total.antisymm x.0 l ∙ ap ordering_reverse (below_each l (entries_of ms) x up.0 later) in
          ap (λ o. match_ordering o (get_member x.0 ms) (Some e) (get_member x.0 ms)) above ∙ is_found ms up.1 x later
    ]

-- The entries after a put are the new one and those with other keys.
pub put_entries : (k : List ℕ) (d : Data) (ms : Members) → Ascends (entries_of ms) → Ascends (entries_of (put k d ms)) → (x : Entry) → Contains (entries_of (put k d ms)) x ↔ ((x ≡ (k, d)) ⊎ (Contains (entries_of ms) x × (x.0 ≡ k → ⊥)))
put_entries k d ms up after x = (λ c. by (slice_cmp nat_cmp x.0 k) refl (is_found (put k d ms) after x c), from)
  where
    other : (x.0 ≡ k → ⊥) → get_member x.0 (put k d ms) ≡ Some x.1 → (x ≡ (k, d)) ⊎ (Contains (entries_of ms) x × (x.0 ≡ k → ⊥))
    other not is = inr (found x.0 x.1 ms (sym (get_member-put_other x.0 k d ms not) ∙ is), not)

    by : (o : Ordering) → slice_cmp nat_cmp x.0 k ≡ o → get_member x.0 (put k d ms) ≡ Some x.1 → (x ≡ (k, d)) ⊎ (Contains (entries_of ms) x × (x.0 ≡ k → ⊥))
    by Less o is = other (λ e. not_below x.0 k o (sym e)) is
    by Equal o is =
        let key : x.0 ≡ k = exact_bytes x.0 k o in
        let both : Some x.1 ≡ Some d = sym is ∙ ap (λ n. get_member n (put k d ms)) key ∙ get_member-put k d ms in
        let value : x.1 ≡ d = cc both in
        inl (λ i. (key i, value i))
    by Greater o is = other (not_above x.0 k o) is

    from : (x ≡ (k, d)) ⊎ (Contains (entries_of ms) x × (x.0 ≡ k → ⊥)) → Contains (entries_of (put k d ms)) x
    from (inl same) = subst (Contains (entries_of (put k d ms))) (sym same) (found k d (put k d ms) (get_member-put k d ms))
    from (inr old) = found x.0 x.1 (put k d ms) (get_member-put_other x.0 k d ms old.1 ∙ is_found ms up x old.0)

-- The keys of a map ascend, and so do the entries that the map stands for.

map_below : (k : String Global) (es : List (String Global × Value)) → AllByRecursion (λ l. string_cmp k l ≡ Less) (keys_of es) → IsBelow (string_bytes k) (entries_of (members_view es))
map_below k [] below = tt
map_below k (e ∷ es) below = (below.0, map_below k es below.1)

pub map_ascends : (es : List (String Global × Value)) → IsStrictlySortedBy string_cmp (keys_of es) → Ascends (entries_of (members_view es))
unfolding IsStrictlySortedBy
map_ascends [] up = tt
map_ascends (e ∷ es) up = (map_below e.0 es up.0, map_ascends es up.1)

pub map_has : (value : Data) (es all : List (String Global × Value)) → Some (members_view es) ≡ as_object value → all ≡ es → IsStrictlySortedBy string_cmp (keys_of es) → HasEntries value (entries_of (members_view all))
map_has value es all is same up = record {
  members = members_view all;
  is_object = sym is ∙ ap (λ l. Some (members_view l)) (sym same);
  are = refl;
  ascends = subst (λ l. Ascends (entries_of (members_view l))) (sym same) (map_ascends es up);
}

pub has_entries : (value : Data) (es : List (String Global × Value)) → as_object value ≡ Some (members_view es) → Ascends (entries_of (members_view es)) → HasEntries value (entries_of (members_view es))
has_entries value es is up = record { members = members_view es; is_object = is; are = refl; ascends = up }

-- If the keys ascend, each entry is below the entries after it.
pub below_later : (before : List Entry) (e : Entry) (later : List Entry) → Ascends (before ++ e ∷ later) → IsBelow e.0 later
unfolding IsStrictlySortedBy
below_later [] e later up = up.0
below_later (f ∷ before) e later up = below_later before e later up.1
