-- What stands in the file after each call by which a group of lines is added.
use Rattle.std.proofs.Common.{◌≡◌, ◌≢◌, ◌∙◌, ◌⊎◌, inl, inr, ℕ, ◌+◌, Bool, true, false, List, [], ◌∷◌, ◌++◌, length, take, drop, suc, refl, sym, ap, subst, append_assoc, arith, Vec, Global}
use Rattle.std.specs.List.{Contains}
use Rattle.std.proofs.lemmas.List.{take_at, drop_at, take-append-drop, length-append}
use Rattle.std.proofs.lemmas.List.Elements.{All-append, All-push}
use Rattle.bimap_journal.specs.declared.disk.Operation.TheVariants.{Wrote, WroteByte, Synced}
use Rattle.bimap_journal.specs.Calls.{Event, KeepsFront, with_byte, seen, MayLeave, LeavesOnly}
use Rattle.bimap_journal.specs.Lines.{header, opened, closed, lines, HasLines, IsAtRest, IsGroup}
use Rattle.bimap_journal.proofs.Moments.{leaves_now, leaves_more}

module _ (base rest : List ℕ) (byte : ℕ) where
  length_one : length (base ++ byte ∷ []) ≡ length base + 1
  length_one = length-append base (byte ∷ [])

  one : base ++ byte ∷ rest ≡ (base ++ byte ∷ []) ++ rest
  one = sym (append_assoc base (byte ∷ []) rest)

  front : take (length base + 1) (base ++ byte ∷ rest) ≡ base ++ byte ∷ []
  front = ap (take (length base + 1)) one ∙ take_at (base ++ byte ∷ []) rest (length base + 1) length_one

  -- A file with the same front has the same bytes up to this byte.
  pub front_kept : (file : List ℕ) → KeepsFront (length base + 1) (base ++ byte ∷ rest) file → file ≡ base ++ byte ∷ drop (length base + 1) file
  front_kept file kept = sym (take-append-drop (length base + 1) file) ∙ ap (λ xs. xs ++ drop (length base + 1) file) (kept ∙ front) ∙ append_assoc base (byte ∷ []) (drop (length base + 1) file)

  -- Bytes written behind this byte stand behind it.
  pub written_behind : (group tail : List ℕ) → take (length base + 1) (base ++ byte ∷ rest) ++ group ++ tail ≡ base ++ byte ∷ (group ++ tail)
  written_behind group tail = ap (λ xs. xs ++ group ++ tail) front ∙ append_assoc (base ++ byte ∷ []) group tail ∙ append_assoc base (byte ∷ []) (group ++ tail)

  -- Only this byte changes.
  pub byte_changed : (new : ℕ) → with_byte (length base) new (base ++ byte ∷ rest) ≡ base ++ new ∷ rest
  byte_changed new =
      let before : take (length base) (base ++ byte ∷ rest) ≡ base = take_at base (byte ∷ rest) (length base) refl in
      let after : drop (length base + 1) (base ++ byte ∷ rest) ≡ rest = ap (drop (length base + 1)) one ∙ drop_at (base ++ byte ∷ []) rest (length base + 1) length_one in
      ap (λ xs. xs ++ new ∷ drop (length base + 1) (base ++ byte ∷ rest)) before ∙ ap (λ xs. base ++ new ∷ xs) after

pub lines-append : (xs ys : List (List ℕ)) → lines (xs ++ ys) ≡ lines xs ++ lines ys
lines-append [] ys = refl
lines-append (text ∷ xs) ys =
    ap (λ more. opened ∷ (text ++ 10 ∷ more)) (lines-append xs ys)
    ∙ ap (λ more. opened ∷ more) (sym (append_assoc text (10 ∷ lines xs) (lines ys)))

-- A first line begins a group without its first byte.
pub begun : (text : List ℕ) (texts : List (List ℕ)) (bytes : List ℕ) → bytes ≡ drop 1 (lines texts) → bytes ≡ [] → text ++ 10 ∷ [] ≡ drop 1 (lines (texts ++ text ∷ []))
begun text [] bytes is none = refl
begun text ([] ∷ texts) bytes is none = absurd (cc)
begun text ((byte ∷ other) ∷ texts) bytes is none = absurd (cc)

-- A further line goes on with its first byte.
pub continued : (text : List ℕ) (texts : List (List ℕ)) (bytes : List ℕ) → bytes ≡ drop 1 (lines texts) → bytes ≢ [] → bytes ++ opened ∷ (text ++ 10 ∷ []) ≡ drop 1 (lines (texts ++ text ∷ []))
continued text [] bytes is some = absurd (some is)
continued text (other ∷ texts) bytes is some =
    ap (λ xs. xs ++ opened ∷ (text ++ 10 ∷ [])) is
    ∙ append_assoc other (10 ∷ lines texts) (opened ∷ (text ++ 10 ∷ []))
    ∙ ap (λ xs. other ++ 10 ∷ xs) (sym (lines-append texts (text ∷ [])))

-- The group of one line.
pub one_group : (bytes text : List ℕ) → ¬ Contains text 10 → bytes ≡ text ++ 10 ∷ [] ++ closed ∷ [] → IsGroup bytes (text ∷ [])
one_group bytes text none is = record { is = is; some = λ e. absurd (cc); unbroken = All-append (λ t. ¬ Contains t 10) [] (text ∷ []) (λ k d inside. absurd (omega (arith, inside))) (All-push (λ t. ¬ Contains t 10) [] text (λ k d inside. absurd (omega (arith, inside))) none) }

-- With its first byte, a group is its lines and the byte that closes them.
opened_group : (bytes : List ℕ) (more : List (List ℕ)) → IsGroup bytes more → opened ∷ bytes ≡ lines more ++ closed ∷ []
opened_group bytes [] group = absurd (group.some refl)
opened_group bytes (text ∷ more) group = ap (λ xs. opened ∷ xs) group.is

-- The file after some calls has these lines, and then a group is written behind them.
module _ (calls : List Event) (end : ℕ) (texts more : List (List ℕ)) (group : Vec ℕ Global) (rests : IsAtRest calls end texts) (is_group : IsGroup group.items more) where
  base : List ℕ
  base = header ++ lines texts

  -- The lines are there, with the group or without it.
  abbrev pub IsOneOf : List ℕ → Type 0
  IsOneOf file = HasLines file texts ⊎ HasLines file (texts ++ more)

  abbrev event : Bool → Event
  event done = (Wrote (end + 1) done, group)

  tail : List ℕ
  tail = drop (end + 1 + length group.items) (seen calls)

  without : (file rest : List ℕ) → file ≡ base ++ closed ∷ rest → HasLines file texts
  unfolding base
  without file rest e = record { rest = rest; is = e; unbroken = rests.has.unbroken }

  -- Nothing was written yet.
  before : (file : List ℕ) → MayLeave calls file → IsOneOf file
  unfolding base
  before file left = inl (without file rests.has.rest (rests.durable file left ∙ rests.has.is))

  -- During the write of the group, and after it.
  unsynced : (done : Bool) (file : List ℕ) → MayLeave (event done ∷ calls) file → IsOneOf file
  unfolding base
  unsynced done file left =
      let old : left.0 ≡ base ++ closed ∷ rests.has.rest = rests.durable left.0 left.1 ∙ rests.has.is in
      let kept : KeepsFront (length base + 1) (base ++ closed ∷ rests.has.rest) file =
      subst (λ n. take n file ≡ take n (base ++ closed ∷ rests.has.rest)) (ap (λ n. n + 1) rests.at_end) (left.2 ∙ ap (take (end + 1)) old) in
      inl (without file (drop (length base + 1) file) (front_kept base rests.has.rest closed file kept))

  -- Once the group is written, it stands behind the byte that closes the lines.
  is_written : (done : Bool) → seen (event done ∷ calls) ≡ base ++ closed ∷ (group.items ++ tail)
  unfolding base tail
  is_written done =
      let there : take (end + 1) (seen calls) ≡ take (length base + 1) (base ++ closed ∷ rests.has.rest) =
      ap (λ n. take (n + 1) (seen calls)) rests.at_end ∙ ap (take (length base + 1)) rests.has.is in
      ap (λ xs. xs ++ group.items ++ tail) there ∙ written_behind base rests.has.rest closed group.items tail

  all_lines : base ++ lines more ≡ header ++ lines (texts ++ more)
  unfolding base
  all_lines = append_assoc header (lines texts) (lines more) ∙ ap (λ xs. header ++ xs) (sym (lines-append texts more))

  -- Behind an open gate, the group is among the lines.
  regrouped : base ++ opened ∷ (group.items ++ tail) ≡ header ++ lines (texts ++ more) ++ closed ∷ tail
  regrouped =
      let of_group : opened ∷ (group.items ++ tail) ≡ lines more ++ closed ∷ tail =
      ap (λ xs. xs ++ tail) (opened_group group.items more is_group) ∙ append_assoc (lines more) (closed ∷ []) tail in
      let apart : base ++ (lines more ++ closed ∷ tail) ≡ base ++ lines more ++ closed ∷ tail = sym (append_assoc base (lines more) (closed ∷ tail)) in
      ap (λ xs. base ++ xs) of_group ∙ apart ∙ ap (λ xs. xs ++ closed ∷ tail) all_lines

  -- With its gate open, the group counts.
  counted : (file : List ℕ) → file ≡ base ++ opened ∷ (group.items ++ tail) → HasLines file (texts ++ more)
  unfolding base
  counted file e = record { rest = tail; is = e ∙ regrouped; unbroken = All-append (λ text. ¬ Contains text 10) texts more rests.has.unbroken is_group.unbroken }

  module _ (x : Vec ℕ Global) where
    abbrev synced : Bool → List Event
    synced done = (Synced done, x) ∷ (event true ∷ calls)

    at_sync : (done : Bool) (file : List ℕ) → MayLeave (synced done) file → IsOneOf file
    at_sync true file left = inl (without file (group.items ++ tail) (left ∙ is_written true))
    at_sync false file left = unsynced true file left

    module _ (y : Vec ℕ Global) where
      abbrev gated : Bool → List Event
      gated done = (WroteByte end opened done, y) ∷ synced true

      gate : with_byte end opened (base ++ closed ∷ (group.items ++ tail)) ≡ base ++ opened ∷ (group.items ++ tail)
      unfolding base
      gate = ap (λ n. with_byte n opened (base ++ closed ∷ (group.items ++ tail))) rests.at_end ∙ byte_changed base (group.items ++ tail) closed opened

      is_open : (done : Bool) → seen (gated done) ≡ base ++ opened ∷ (group.items ++ tail)
      is_open done = ap (with_byte end opened) (is_written true) ∙ gate

      at_gate : (done : Bool) (file : List ℕ) → MayLeave (gated done) file → IsOneOf file
      at_gate done file left =
          elim left.2 [
            | inl same ↦ inl (without file (group.items ++ tail) (same ∙ left.1 ∙ is_written true))
            | inr new ↦ inr (counted file (new ∙ ap (with_byte end opened) (left.1 ∙ is_written true) ∙ gate))
          ]

      module _ (z : Vec ℕ Global) where
        abbrev whole : Bool → List Event
        whole done = (Synced done, z) ∷ gated true

        at_last : (done : Bool) (file : List ℕ) → MayLeave (whole done) file → IsOneOf file
        at_last true file left = inr (counted file (left ∙ is_open true))
        at_last false file left = at_gate true file left

        pub committed : IsAtRest (whole true) (end + length group.items) (texts ++ more)
        unfolding base
        committed =
            record {
              has = counted (seen (whole true)) (is_open true);
              at_end =
                  let e : suc (length group.items) ≡ length (lines more) + 1 = ap length (opened_group group.items more is_group) ∙ length-append (lines more) (closed ∷ []) in
                  let f : length (header ++ lines (texts ++ more)) ≡ length base + length (lines more) =
                  ap length (ap (λ xs. header ++ xs) (lines-append texts more) ∙ sym (append_assoc header (lines texts) (lines more))) ∙ length-append base (lines more) in
                  omega (arith, e, f, rests.at_end);
              durable = λ file left. left;
            }

  pub any_moment_0 : LeavesOnly calls calls IsOneOf
  any_moment_0 = leaves_now IsOneOf calls before

  any_moment_1 : (done : Bool) → LeavesOnly calls (event done ∷ calls) IsOneOf
  any_moment_1 done = leaves_more IsOneOf calls calls (event done) any_moment_0 (unsynced done)

  any_moment_2 : (x : Vec ℕ Global) (done : Bool) → LeavesOnly calls (synced x done) IsOneOf
  any_moment_2 x done = leaves_more IsOneOf calls (event true ∷ calls) (Synced done, x) (any_moment_1 true) (at_sync x done)

  any_moment_3 : (x y : Vec ℕ Global) (done : Bool) → LeavesOnly calls (gated x y done) IsOneOf
  any_moment_3 x y done = leaves_more IsOneOf calls (synced x true) (WroteByte end opened done, y) (any_moment_2 x true) (at_gate x y done)

  any_moment_4 : (x y z : Vec ℕ Global) (done : Bool) → LeavesOnly calls (whole x y z done) IsOneOf
  any_moment_4 x y z done = leaves_more IsOneOf calls (gated x y true) (Synced done, z) (any_moment_3 x y true) (at_last x y z done)

  -- The same, for what a program sees of the calls that it made.
  module _ (n1 : List Event) (d1 : Bool) (e1 : n1 ≡ event d1 ∷ calls) where
    pub seen_1 : LeavesOnly calls n1 IsOneOf
    seen_1 = subst (λ n. LeavesOnly calls n IsOneOf) (sym e1) (any_moment_1 d1)

  module _ (n1 n2 : List Event) (d2 : Bool) (e1 : n1 ≡ event true ∷ calls) (x : Vec ℕ Global) (e2 : n2 ≡ (Synced d2, x) ∷ n1) where
    to_2 : n2 ≡ synced x d2
    to_2 = e2 ∙ ap (λ n. (Synced d2, x) ∷ n) e1

    pub seen_2 : LeavesOnly calls n2 IsOneOf
    seen_2 = subst (λ n. LeavesOnly calls n IsOneOf) (sym to_2) (any_moment_2 x d2)

  module _ (n1 n2 n3 : List Event) (d3 : Bool) (e1 : n1 ≡ event true ∷ calls) (x y : Vec ℕ Global) (e2 : n2 ≡ (Synced true, x) ∷ n1) (e3 : n3 ≡ (WroteByte end opened d3, y) ∷ n2) where
    to_3 : n3 ≡ gated x y d3
    to_3 = e3 ∙ ap (λ n. (WroteByte end opened d3, y) ∷ n) (to_2 n1 n2 true e1 x e2)

    pub seen_3 : LeavesOnly calls n3 IsOneOf
    seen_3 = subst (λ n. LeavesOnly calls n IsOneOf) (sym to_3) (any_moment_3 x y d3)

  module _ (n1 n2 n3 n4 : List Event) (d4 : Bool) (e1 : n1 ≡ event true ∷ calls) (x y z : Vec ℕ Global) (e2 : n2 ≡ (Synced true, x) ∷ n1) (e3 : n3 ≡ (WroteByte end opened true, y) ∷ n2) (e4 : n4 ≡ (Synced d4, z) ∷ n3) where
    to_4 : n4 ≡ whole x y z d4
    to_4 = e4 ∙ ap (λ n. (Synced d4, z) ∷ n) (to_3 n1 n2 n3 true e1 x y e2 e3)

    pub seen_4 : LeavesOnly calls n4 IsOneOf
    seen_4 = subst (λ n. LeavesOnly calls n IsOneOf) (sym to_4) (any_moment_4 x y z d4)

    pub acknowledged : d4 ≡ true → IsAtRest n4 (end + length group.items) (texts ++ more)
    acknowledged t = subst (λ n. IsAtRest n (end + length group.items) (texts ++ more)) (sym (to_4 ∙ ap (whole x y z) t)) (committed x y z)
