-- What a list of calls leaves in the file, call by call.
use Rattle.std.proofs.Common.{◌≡◌, ◌≢◌, ◌↔◌, ◌⊎◌, ◌∙◌, inl, inr, ℕ, zero, suc, ◌+◌, ◌<◌, ◌≤◌, ◌==◌, Bool, true, false, List, [], ◌∷◌, ◌++◌, length, take, drop, get_or, refl, sym, ap, subst, true≢false, append_assoc, arith, Vec, Global}
use Rattle.std.specs.Prelude.{Contains, Some, None, vec_len}
use Rattle.std.proofs.lemmas.Bool.Decides.{Decides-eqb}
use Rattle.bimap.proofs.Trails.{empty_from_length}
use Rattle.std.specs.List.{AllZip, zip}
use Rattle.std.specs.Cmp.{IsEquivalence}
use Rattle.std.specs.declared.convert.Infallible.{Infallible}
use Rattle.std.proofs.lemmas.Bool.{false≢true}
use Rattle.std.proofs.lemmas.List.{append-nil, drop_more, get_or_default}
use Rattle.std.proofs.lemmas.List.Elements.{All-push}
use Rattle.serde_json.specs.Data.{Data}
use Rattle.bimap_any.proofs.Survivors.{Survives_append, Survives_none, Survives_one}
use Rattle.bimap.specs.Holding.{Holding}
use Rattle.bimap.specs.declared.call.Call.{Call}
use Rattle.bimap.specs.declared.call.Call.TheVariants.{Insert, InsertNoOverwrite, InsertWith, RemoveByLeft, RemoveByRight, ContainsLeft, ContainsRight, Retain, Clear}
use Rattle.bimap.specs.declared.call.Reply.{Reply}
use Rattle.bimap.specs.declared.call.Reply.TheVariants.{Inserted, NoRoom, Put, Occupied, LeftHeld, RightHeld, Removed, Holds, Done}
use Rattle.bimap.specs.History.{Entry, Puts, Touches, IsRight, IsSurvivor}
use Rattle.bimap_journal.specs.declared.change.Change.{Change}
use Rattle.bimap_journal.specs.declared.change.Change.TheVariants.{Insert as Inserts, RemoveByLeft as RemovesByLeft, RemoveByRight as RemovesByRight, Clear as Clears}
use Rattle.bimap_journal.specs.Lines.{lines, closed, AreUnbroken, IsGroup}
use Rattle.bimap_journal.specs.Changes.{AreKept, IsLineOf, IsGroupOf, IsAfter}
use Rattle.bimap_journal.specs.Batches.{has_changed, space, IsLineFor, IsLineOfCall, IsGroupOfTwo, IsRun, IsRecorded}
use Rattle.bimap_journal.proofs.Groups.{one_group}
use Rattle.bimap_journal.proofs.Kept.{kept_more}
use Rattle.bimap_journal.proofs.Steps.{same_kept}

-- A test of keys that do not exist is like any other.
pub any_test : {K P : Type 0} → (K → ⊥) → (test other : K → P → Bool → Type 0) → test ≡ other
any_test {K} none test other = λ i key. same key i
  where
    same : (key : K) → test key ≡ other key
    same key = absurd (none key)

-- What stands at a place of three lists.
pub record IsAt {A B C : Type 0} (P : A → B → Type 0) (calls : List A) (lines : List B) (replies : List C) (i : ℕ) : Type 0 where
  pub call : A
  pub line : B
  pub reply : C
  pub fits : P call line
  pub line_is : (d : B) → get_or lines i d ≡ line
  pub reply_is : (d : C) → get_or replies i d ≡ reply
  pub taken : take (suc i) (zip calls replies) ≡ take i (zip calls replies) ++ (call, reply) ∷ []
  pub split : zip calls replies ≡ take i (zip calls replies) ++ (call, reply) ∷ drop (suc i) (zip calls replies)

pub at : {A B C : Type 0} (P : A → B → Type 0) (calls : List A) (lines : List B) (replies : List C) (i : ℕ) → AllZip P calls lines → length lines ≡ length replies → i < length lines → IsAt P calls lines replies i
at P [] [] replies i all same inside = absurd (omega arith)
at P [] (l ∷ ls) replies i all same inside = absurd all
at P (c ∷ cs) [] replies i all same inside = absurd all
at P (c ∷ cs) (l ∷ ls) [] i all same inside = absurd (omega (arith, same))
at P (c ∷ cs) (l ∷ ls) (r ∷ rs) zero all same inside =
    record { call = c; line = l; reply = r; fits = all.0; line_is = λ d. refl; reply_is = λ d. refl; taken = refl; split = refl }
at P (c ∷ cs) (l ∷ ls) (r ∷ rs) (suc i) all same inside =
    let rest = at P cs ls rs i all.1 (omega (arith, same)) (omega arith) in
    record {
      call = rest.call;
      line = rest.line;
      reply = rest.reply;
      fits = rest.fits;
      line_is = rest.line_is;
      reply_is = rest.reply_is;
      taken = ap (λ es. (c, r) ∷ es) rest.taken;
      split = ap (λ es. (c, r) ∷ es) rest.split;
    }

pub zip_whole : {A B C : Type 0} (P : A → B → Type 0) (calls : List A) (lines : List B) (replies : List C) → AllZip P calls lines → length lines ≡ length replies → take (length lines) (zip calls replies) ≡ zip calls replies
zip_whole P [] [] replies all same = refl
zip_whole P [] (l ∷ ls) replies all same = absurd all
zip_whole P (c ∷ cs) [] replies all same = absurd all
zip_whole P (c ∷ cs) (l ∷ ls) [] all same = absurd (omega (arith, same))
zip_whole P (c ∷ cs) (l ∷ ls) (r ∷ rs) all same = ap (λ es. (c, r) ∷ es) (zip_whole P cs ls rs all.1 (omega (arith, same)))

pub zipped_long : {A B : Type 0} (P : A → B → Type 0) (xs : List A) (ys : List B) → AllZip P xs ys → length xs ≡ length ys
zipped_long P [] [] all = refl
zipped_long P [] (y ∷ ys) all = absurd all
zipped_long P (x ∷ xs) [] all = absurd all
zipped_long P (x ∷ xs) (y ∷ ys) all = ap suc (zipped_long P xs ys all.1)

-- A list of no length is empty.
pub empty_items : (v : Vec ℕ Global) → (vec_len v == 0) ≡ true → v.items ≡ []
empty_items v e =
    let none : vec_len v ≡ 0 = (Decides-eqb (vec_len v) 0).0 e in
    let ok = v.ok.0 in
    empty_from_length v.items (omega (arith, none, ok))

-- The space for the lines from a place on.
pub space_more : (all : List (Vec ℕ Global)) (i : ℕ) (line : Vec ℕ Global) → i < length all → line ≡ get_or all i line → space (drop i all) ≡ length line.items + 1 + space (drop (i + 1) all)
space_more all i line inside is = ap space (drop_more all i line inside ∙ ap (λ l. l ∷ drop (i + 1) all) (sym is))

pub space_less : (all : List (Vec ℕ Global)) (i : ℕ) → i < length all → space (drop (i + 1) all) ≤ space (drop i all)
space_less [] i inside = absurd (omega arith)
space_less (line ∷ all) i inside =
    let e = space_more (line ∷ all) i (get_or (line ∷ all) i line) inside (get_or_default (line ∷ all) i line (get_or (line ∷ all) i line) inside) in
    omega (arith, e)

-- A line and the byte behind it are a group. Two lines and the bytes between and behind them are one too.
module _ {L R : Type 0} (reads_left : Data → L → Type 0) (reads_right : Data → R → Type 0) (same_left : L → L → Bool) (same_right : R → R → Bool) (change : Change L R) (line : List ℕ) where
  pub group_of_line : (group : List ℕ) → IsLineFor same_left same_right reads_left reads_right change line → group ≡ line ++ closed ∷ [] → IsGroupOf same_left same_right reads_left reads_right change group
  group_of_line group (text, of, none, is) e = (text, of, one_group group text none (e ∙ ap (λ xs. xs ++ closed ∷ []) is))

  pub group_of_two : (other : Change L R) (second group : List ℕ) → IsLineFor same_left same_right reads_left reads_right change line → IsLineFor same_left same_right reads_left reads_right other second → group ≡ line ++ 43 ∷ second ++ closed ∷ [] → IsGroupOfTwo same_left same_right reads_left reads_right change other group
  group_of_two other second group (text, of, none, is) (text2, of2, none2, is2) e = (
    text,
    text2,
    of,
    of2,
    record {
      is =
          e ∙ ap (λ xs. (xs ++ (43 ∷ second)) ++ (closed ∷ [])) is ∙ ap (λ xs. ((text ++ (10 ∷ [])) ++ (43 ∷ xs)) ++ (closed ∷ [])) is2
          ∙ ap (λ xs. xs ++ (closed ∷ [])) (append_assoc text (10 ∷ []) (43 ∷ (text2 ++ (10 ∷ []))));
      some = λ e. absurd (cc);
      unbroken = All-push (λ t. ¬ Contains t 10) (text ∷ []) text2 (All-push (λ t. ¬ Contains t 10) [] text (λ k d inside. absurd (omega (arith, inside))) none) none2;
    },
  )

module _ {L R : Type 0} (reads_left : Data → L → Type 0) (reads_right : Data → R → Type 0) (same_left : L → L → Bool) (same_right : R → R → Bool) (left : IsEquivalence same_left) (right : IsEquivalence same_right) where
  abbrev Never : Infallible → L × R → Bool → Type 0
  Never key pair kept = ⊥

  abbrev Stay : (L × R → Type 0) → List (Entry L R Infallible) → L × R → Type 0
  Stay S done p = IsSurvivor same_left same_right Never S done p

  abbrev Keeps : List (List ℕ) → (L × R → Type 0) → Type 0
  Keeps = AreKept same_left same_right reads_left reads_right

  abbrev Line : Change L R → List ℕ → Type 0
  Line = IsLineOf same_left same_right reads_left reads_right

  -- The pairs that one more entry leaves.
  abbrev IsStep : (L × R → Type 0) → Entry L R Infallible → (L × R → Type 0) → Type 0
  IsStep S entry T = (p : L × R) → T p ↔ (Puts entry p ⊎ (S p × (Touches same_left same_right Never entry p → ⊥)))

  step : (S : L × R → Type 0) (done : List (Entry L R Infallible)) (entry : Entry L R Infallible) → IsStep (Stay S done) entry (Stay S (done ++ entry ∷ []))
  step S done entry p =
      let all = Survives_append Puts (Touches same_left same_right Never) S done (entry ∷ []) p in
      let one = Survives_one Puts (Touches same_left same_right Never) (λ q. Stay S done q) entry p in
      (λ s. one.0 (all.0 s), λ w. all.1 (one.1 w))

  -- The line of a call, and what its change makes of the pairs.
  record IsMade (S T : L × R → Type 0) (bytes : List ℕ) : Type 0 where
    change : Change L R
    text : List ℕ
    line : Line change text
    none : ¬ Contains text 10
    is : bytes ≡ text ++ 10 ∷ []
    after : IsAfter same_left same_right change S T

  module _ (S T : L × R → Type 0) where
    -- A call that changed the map.
    made : (call : Call L R Infallible) (reply : Reply L R) (bytes : List ℕ) → has_changed reply ≡ true → IsRight same_left same_right S (call, reply) → IsStep S (call, reply) T → IsLineOfCall same_left same_right reads_left reads_right call bytes → IsMade S T bytes
    made (Insert l r) (Inserted a) bytes so h to w = record { change = Inserts l r; text = w.0; line = w.1; none = w.2; is = w.3; after = to }
    made (InsertNoOverwrite l r) Put bytes so h to w = record { change = Inserts l r; text = w.0; line = w.1; none = w.2; is = w.3; after = to }
    made (InsertWith l r policy) (Inserted a) bytes so h to w = record { change = Inserts l r; text = w.0; line = w.1; none = w.2; is = w.3; after = to }
    made (RemoveByLeft l) (Removed (Some p)) bytes so h to w = record { change = RemovesByLeft l; text = w.0; line = w.1; none = w.2; is = w.3; after = to }
    made (RemoveByRight r) (Removed (Some p)) bytes so h to w = record { change = RemovesByRight r; text = w.0; line = w.1; none = w.2; is = w.3; after = to }
    made Clear Done bytes so h to w = record { change = Clears; text = w.0; line = w.1; none = w.2; is = w.3; after = to }
    made (Retain key) reply bytes so h to w = elim key [ ]
    made call (NoRoom l r) bytes so h to w = absurd (false≢true so)
    made call (Occupied l r) bytes so h to w = absurd (false≢true so)
    made call (LeftHeld l r) bytes so h to w = absurd (false≢true so)
    made call (RightHeld l r) bytes so h to w = absurd (false≢true so)
    made call (Removed None) bytes so h to w = absurd (false≢true so)
    made call (Holds b) bytes so h to w = absurd (false≢true so)
    made call reply bytes so h to w = absurd h

    none_put : (p : L × R) → T p ↔ (⊥ ⊎ (S p × (⊥ → ⊥))) → T p ↔ S p
    none_put p to = (λ t. elim (to.0 t) [ inl n ↦ absurd n | inr s ↦ s.0 ], λ s. to.1 (inr (s, λ n. n)))

    -- A call that did not change the map.
    stayed : (call : Call L R Infallible) (reply : Reply L R) → has_changed reply ≡ false → IsRight same_left same_right S (call, reply) → IsStep S (call, reply) T → (p : L × R) → T p ↔ S p
    stayed (Insert l r) (NoRoom a b) so h to p = none_put p (to p)
    stayed (InsertNoOverwrite l r) (NoRoom a b) so h to p = none_put p (to p)
    stayed (InsertNoOverwrite l r) (Occupied a b) so h to p = none_put p (to p)
    stayed (InsertWith l r policy) (NoRoom a b) so h to p = none_put p (to p)
    stayed (InsertWith l r policy) (LeftHeld a b) so h to p = none_put p (to p)
    stayed (InsertWith l r policy) (RightHeld a b) so h to p = none_put p (to p)
    stayed (ContainsLeft l) (Holds b) so h to p = none_put p (to p)
    stayed (ContainsRight r) (Holds b) so h to p = none_put p (to p)
    stayed (RemoveByLeft l) (Removed None) so h to p =
        (λ t. elim ((to p).0 t) [ inl n ↦ absurd n | inr s ↦ s.0 ], λ s. (to p).1 (inr (s, λ e. true≢false (sym e ∙ h p s))))
    stayed (RemoveByRight r) (Removed None) so h to p =
        (λ t. elim ((to p).0 t) [ inl n ↦ absurd n | inr s ↦ s.0 ], λ s. (to p).1 (inr (s, λ e. true≢false (sym e ∙ h p s))))
    stayed (Retain key) reply so h to p = elim key [ ]
    stayed call (Inserted a) so h to p = absurd (true≢false so)
    stayed call Put so h to p = absurd (true≢false so)
    stayed call (Removed (Some q)) so h to p = absurd (true≢false so)
    stayed call Done so h to p = absurd (true≢false so)
    stayed call reply so h to p = absurd h

  -- The bytes are the lines of the changes so far, without the first byte.
  pub record IsPart (S : L × R → Type 0) (texts : List (List ℕ)) (done : List (Entry L R Infallible)) (bytes : List ℕ) : Type 0 where
    pub more : List (List ℕ)
    pub is : bytes ≡ drop 1 (lines more)
    pub unbroken : AreUnbroken more
    pub kept : Keeps (texts ++ more) (Stay S done)

  pub part_none : (S : L × R → Type 0) (texts : List (List ℕ)) (bytes : List ℕ) → bytes ≡ [] → Keeps texts S → IsPart S texts [] bytes
  part_none S texts bytes empty kept =
      record {
        more = [];
        is = empty;
        unbroken = λ k d inside. absurd (omega (arith, inside));
        kept =
            subst (λ ts. Keeps ts (Stay S [])) (sym (append-nil texts))
            (same_kept reads_left reads_right same_left same_right left right S (Stay S []) texts (λ p. let none = Survives_none Puts (Touches same_left same_right Never) S p in (none.1, none.0)) kept);
      }

  -- With the byte behind them, they are a group.
  module _ (old new : Holding L R) (calls : List (Call L R Infallible)) (replies : List (Reply L R)) (ran : IsRun same_left same_right old calls replies new) (texts : List (List ℕ)) (bytes : List ℕ) (part : IsPart (Contains old.pairs) texts (zip calls replies) bytes) where
    all_kept : Keeps (texts ++ part.more) (Contains new.pairs)
    all_kept = same_kept reads_left reads_right same_left same_right left right (Stay (Contains old.pairs) (zip calls replies)) (Contains new.pairs) (texts ++ part.more) ran.1.survivors part.kept

    no_more : (more : List (List ℕ)) → [] ≡ drop 1 (lines more) → more ≡ []
    no_more [] e = refl
    no_more ([] ∷ more) e = absurd (cc)
    no_more ((byte ∷ text) ∷ more) e = absurd (cc)

    pub recorded_none : bytes ≡ [] → IsRecorded same_left same_right reads_left reads_right texts (Contains new.pairs) bytes
    recorded_none empty = record { more = part.more; is = inr (empty, no_more part.more (sym empty ∙ part.is)); kept = all_kept }

    pub recorded : (group : List ℕ) → bytes ≢ [] → group ≡ bytes ++ closed ∷ [] → IsRecorded same_left same_right reads_left reads_right texts (Contains new.pairs) group
    recorded group some e =
        record {
          more = part.more;
          is = inl (record { is = e ∙ ap (λ xs. xs ++ closed ∷ []) part.is; some = λ none. some (part.is ∙ ap (λ ts. drop 1 (lines ts)) none); unbroken = part.unbroken });
          kept = all_kept;
        }

  module _ (S : L × R → Type 0) (texts : List (List ℕ)) (done : List (Entry L R Infallible)) (call : Call L R Infallible) (reply : Reply L R) (ok : IsRight same_left same_right (Stay S done) (call, reply)) (bytes : List ℕ) (part : IsPart S texts done bytes) where
    abbrev pub after : List (Entry L R Infallible)
    after = done ++ (call, reply) ∷ []

    pub part_more : (line new : List ℕ) → has_changed reply ≡ true → IsLineOfCall same_left same_right reads_left reads_right call line
        → ((text : List ℕ) (more : List (List ℕ)) → line ≡ text ++ 10 ∷ [] → bytes ≡ drop 1 (lines more) → new ≡ drop 1 (lines (more ++ text ∷ []))) → IsPart S texts after new
    part_more line new so of_call pushed =
        let m = made (Stay S done) (Stay S (done ++ (call, reply) ∷ [])) call reply line so ok (step S done (call, reply)) of_call in
        record {
          more = part.more ++ m.text ∷ [];
          is = pushed m.text part.more m.is part.is;
          unbroken = All-push (λ t. ¬ Contains t 10) part.more m.text part.unbroken m.none;
          kept =
              subst (λ ts. Keeps ts (Stay S (done ++ (call, reply) ∷ []))) (append_assoc texts part.more (m.text ∷ []))
              (kept_more reads_left reads_right same_left same_right left right (texts ++ part.more) m.text m.change (Stay S done) (Stay S (done ++ (call, reply) ∷ [])) part.kept m.line m.after);
        }

    pub part_same : has_changed reply ≡ false → IsPart S texts after bytes
    part_same so =
        record {
          more = part.more;
          is = part.is;
          unbroken = part.unbroken;
          kept =
              same_kept reads_left reads_right same_left same_right left right (Stay S done) (Stay S (done ++ (call, reply) ∷ [])) (texts ++ part.more)
              (stayed (Stay S done) (Stay S (done ++ (call, reply) ∷ [])) call reply so ok (step S done (call, reply))) part.kept;
        }

-- What was recorded, if there are bytes and if there are none.
module _ {L R : Type 0} (reads_left : Data → L → Type 0) (reads_right : Data → R → Type 0) (same_left : L → L → Bool) (same_right : R → R → Bool) (texts : List (List ℕ)) (S : L × R → Type 0) (bytes : List ℕ) (made : IsRecorded same_left same_right reads_left reads_right texts S bytes) where
  pub is_group : bytes ≢ [] → IsGroup bytes made.more
  is_group some = elim made.is [ inl group ↦ group | inr none ↦ absurd (some none.0) ]

  not_closed : (front : List ℕ) → [] ≡ front ++ closed ∷ [] → ⊥
  not_closed [] e = absurd (cc)
  not_closed (byte ∷ front) e = absurd (cc)

  pub kept_alone : bytes ≡ [] → AreKept same_left same_right reads_left reads_right texts S
  kept_alone none =
      elim made.is [
        | inl group ↦ absurd (not_closed (drop 1 (lines made.more)) (sym none ∙ group.is))
        | inr e ↦ subst (λ ts. AreKept same_left same_right reads_left reads_right ts S) (ap (λ more. texts ++ more) e.1 ∙ append-nil texts) made.kept
      ]
