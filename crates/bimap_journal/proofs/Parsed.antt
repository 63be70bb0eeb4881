-- The lines of a file are those of one list of texts.
use Rattle.std.proofs.Common.{◌-◌, take, drop, slice_index, get_or, min, ◌≡◌, ◌∙◌, ℕ, suc, ◌+◌, ◌<◌, List, [], ◌∷◌, ◌++◌, length, refl, sym, ap, subst, append_assoc, arith}
use Rattle.std.specs.List.{Contains}
use Rattle.std.specs.List.{AllZip}
use Rattle.std.proofs.lemmas.List.Elements.{Contains-append_right}
use Rattle.std.proofs.lemmas.List.{take_at, take-append-drop, drop_more, length-drop, length-take, length-append, append-nil, get_or-take, get_or_default}
use Rattle.std.proofs.lemmas.Bool.Decides.{Decides-eqb}
use Rattle.bimap_journal.proofs.Groups.{lines-append}
use Rattle.serde_json.specs.Data.{Data}
use Rattle.bimap_journal.specs.Changes.{IsTextOf}
use Rattle.bimap_journal.specs.Reading.{IsLineFault, IsFileFault}
use Rattle.bimap_journal.specs.declared.change.Change.{Change}
use Rattle.bimap_journal.specs.declared.fault.NotOpened.{NotOpened}
use Rattle.bimap_journal.specs.declared.fault.NotOpened.TheVariants.{NotAJournal, OtherVersion, Damaged, Memory, Failed}
use Rattle.memchr.specs.Find.{Nowhere, NoneBefore, Passes, is_byte}
use Rattle.bimap_base.proofs.Members.{head_in, more_in}
use Rattle.bimap_journal.specs.Lines.{header, opened, closed, lines, AreUnbroken}

-- What stands before the first line break is one list.
pub split_unique : (x y u v : List ℕ) → ¬ Contains x 10 → ¬ Contains u 10 → x ++ 10 ∷ y ≡ u ++ 10 ∷ v → (x ≡ u) × (y ≡ v)
split_unique [] y [] v a b e = (refl, cc)
split_unique [] y (c ∷ u) v a b e = let same : 10 ≡ c = cc in absurd (b (subst (λ n. Contains (c ∷ u) n) (sym same) (head_in c u)))
split_unique (c ∷ x) y [] v a b e = let same : c ≡ 10 = cc in absurd (a (subst (λ n. Contains (c ∷ x) n) same (head_in c x)))
split_unique (c ∷ x) y (d ∷ u) v a b e =
    let rest = split_unique x y u v (λ m. a (more_in c x 10 m)) (λ m. b (more_in d u 10 m)) (cc) in
    (cc (rest.0), rest.1)

-- A line ends in a line break.
pub has_break : (rest text behind : List ℕ) → opened ∷ rest ≡ opened ∷ text ++ 10 ∷ behind → Contains rest 10
has_break rest text behind e =
    let is : rest ≡ text ++ 10 ∷ behind = cc in
    subst (λ xs. Contains xs 10) (sym is) (Contains-append_right text (10 ∷ behind) 10 (head_in 10 behind))

pub take_all : (xs : List ℕ) (n : ℕ) → length xs ≡ n → take n xs ≡ xs
take_all xs n e = ap (take n) (sym (append-nil xs)) ∙ take_at xs [] n e

-- All but the first byte.
pub behind_first : (bytes : List ℕ) (byte : ℕ) → 0 < length bytes → slice_index bytes 0 ≡ byte → bytes ≡ byte ∷ take (length bytes - 1) (drop 1 bytes)
behind_first [] byte some is = absurd (omega arith)
behind_first (b ∷ bytes) byte some is =
    let same : b ≡ byte = is in
    let all : take (length (b ∷ bytes) - 1) bytes ≡ bytes = take_all bytes (length (b ∷ bytes) - 1) (omega arith) in
    ap (λ c. c ∷ bytes) same ∙ ap (λ xs. byte ∷ xs) (sym all)

-- Bytes are cut at their first line break.
pub cut_is : (rest : List ℕ) (long : ℕ) → NoneBefore (Passes (is_byte 10) rest) 0 (length rest) long → Passes (is_byte 10) rest long → rest ≡ take long rest ++ 10 ∷ take (length rest - (long + 1)) (drop (long + 1) rest)
cut_is rest long first here =
    let inside : long < length rest = first.high in
    let byte : get_or rest long 0 ≡ 10 = (Decides-eqb (get_or rest long 0) 10).0 here in
    let after : take (length rest - (long + 1)) (drop (long + 1) rest) ≡ drop (long + 1) rest = take_all (drop (long + 1) rest) (length rest - (long + 1)) (length-drop (long + 1) rest) in
    sym (take-append-drop long rest) ∙ ap (λ xs. take long rest ++ xs) (drop_more rest long 0 inside ∙ ap (λ b. b ∷ drop (long + 1) rest) byte ∙ ap (λ xs. 10 ∷ xs) (sym after))

pub cut_none : (rest : List ℕ) (long : ℕ) → NoneBefore (Passes (is_byte 10) rest) 0 (length rest) long → ¬ Contains (take long rest) 10
cut_none rest long first there =
    let inside : there.0 < length (take long rest) = there.1 in
    let short : length (take long rest) ≡ min long (length rest) = length-take long rest in
    let below : there.0 < long = omega (arith, inside, short) in
    let within : there.0 < length rest = omega (arith, inside, short) in
    let byte : get_or rest there.0 0 ≡ 10 = get_or_default rest there.0 0 10 within ∙ sym (get_or-take long rest there.0 10 below) ∙ there.2 in
    first.before there.0 (omega arith) below ((Decides-eqb (get_or rest there.0 0) 10).1 byte)

pub nowhere_none : (rest : List ℕ) → Nowhere (Passes (is_byte 10) rest) 0 (length rest) → ¬ Contains rest 10
nowhere_none rest nowhere there =
    let inside : there.0 < length rest = there.1 in
    let byte : get_or rest there.0 0 ≡ 10 = get_or_default rest there.0 0 10 inside ∙ there.2 in
    nowhere there.0 (omega arith) inside ((Decides-eqb (get_or rest there.0 0) 10).1 byte)

pub long_line : (rest text behind : List ℕ) → rest ≡ opened ∷ text ++ 10 ∷ behind → length behind < length rest
long_line rest text behind is =
    let e : length rest ≡ suc (length text + suc (length behind)) = ap length is ∙ ap suc (length-append text (10 ∷ behind)) in
    omega (arith, e)

-- One more line.
pub one_more : (texts : List (List ℕ)) (text behind : List ℕ) → header ++ lines texts ++ (opened ∷ text ++ 10 ∷ behind) ≡ header ++ lines (texts ++ text ∷ []) ++ behind
one_more texts text behind =
    let whole : lines (texts ++ text ∷ []) ++ behind ≡ lines texts ++ (opened ∷ text ++ 10 ∷ behind) =
    ap (λ xs. xs ++ behind) (lines-append texts (text ∷ [])) ∙ append_assoc (lines texts) (lines (text ∷ [])) behind
    ∙ ap (λ xs. lines texts ++ opened ∷ xs) (append_assoc text (10 ∷ []) behind) in
    append_assoc header (lines texts) (opened ∷ text ++ 10 ∷ behind) ∙ ap (λ xs. header ++ xs) (sym whole) ∙ sym (append_assoc header (lines (texts ++ text ∷ [])) behind)

-- A file is damaged at the first line that reads as no change.
pub line_fault : {L R : Type 0} (reads_left : Data → L → Type 0) (reads_right : Data → R → Type 0) (file : List ℕ) (done : List (List ℕ)) (changes : List (Change L R)) (rest text behind : List ℕ) (at : ℕ) (fault : NotOpened)
    → file ≡ header ++ lines done ++ rest → at ≡ length (header ++ lines done) → AreUnbroken done → AllZip (IsTextOf reads_left reads_right) done changes
    → rest ≡ opened ∷ text ++ 10 ∷ behind → ¬ Contains text 10 → IsLineFault reads_left reads_right text at fault → IsFileFault reads_left reads_right file fault
line_fault a b file done changes rest text behind at (Damaged found) is place unbroken read here none bad =
    record {
      texts = done;
      changes = changes;
      rest = rest;
      is = is;
      place = bad.0 ∙ place;
      unbroken = unbroken;
      read = read;
      no_end = λ end. let e : opened ∷ (text ++ 10 ∷ behind) ≡ closed ∷ end.0 = sym here ∙ end.1 in let same : opened ≡ closed = cc in absurd (omega (arith, same));
      no_line = λ other more change split unbroken_too reads.
          let e : opened ∷ (text ++ 10 ∷ behind) ≡ opened ∷ (other ++ 10 ∷ more) = sym here ∙ split in
          let parts = split_unique text behind other more none unbroken_too (cc) in
          bad.1 change (subst (λ t. IsTextOf a b t change) (sym parts.0) reads);
    }
line_fault a b file done changes rest text behind at Memory is place unbroken read here none bad = tt
line_fault a b file done changes rest text behind at NotAJournal is place unbroken read here none bad = absurd bad
line_fault a b file done changes rest text behind at OtherVersion is place unbroken read here none bad = absurd bad
line_fault a b file done changes rest text behind at (Failed error) is place unbroken read here none bad = absurd bad
