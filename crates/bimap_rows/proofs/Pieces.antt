-- What is before the first line feed.
use Rattle.std.proofs.Common.{◌≡◌, ◌⊎◌, ℕ, List, [], ◌∷◌, ◌++◌, Bool, true, false, cond, eqb, Option, None, Some, IfSome, length, refl, sym, ap, subst, ◌∙◌, inl, inr, arith, append-nil}
use Rattle.std.specs.Prelude.{is_some, if◌then◌else◌}
use Rattle.std.specs.Bool.{then_some}
use Rattle.std.specs.Io.BufRead.{take_through, drop_through, DropsThrough}
use borrow.Author.Tests.{eqb-true, eqb-false, ne_eqb}
use Rattle.std.proofs.lemmas.List.{length_push, same_from_push}
use Rattle.bimap_rows.specs.Lines.{NoFeed}
use Rattle.bimap_rows.specs.Steps.{IsNextLine}

-- The first line of the bytes, and whether a line feed ends it.
record FirstLine (bytes : List ℕ) : Type 0 where
  pub line : List ℕ
  pub ended : Bool
  pub taken : take_through 10 bytes ≡ line ++ (if ended then 10 ∷ [] else [])
  pub clean : NoFeed line
  pub is : IsNextLine bytes line ended (Some (drop_through 10 bytes))

longer : (x : ℕ) (bytes line : List ℕ) (ended : Bool) (left : Option (List ℕ)) → NoFeed (x ∷ line) → IsNextLine bytes line ended left → IsNextLine (x ∷ bytes) (x ∷ line) ended left
longer x bytes line true left clean h = (h.0, ap (λ l. x ∷ l) h.1, clean, h.3)
longer x bytes line false left clean h = (ap (λ l. x ∷ l) h.0, clean, h.2)

first_line : (bytes : List ℕ) → FirstLine bytes
first_line [] = record { line = []; ended = false; taken = refl; clean = tt; is = (refl, tt, refl) }
first_line (x ∷ xs) = by (eqb x 10) refl (first_line xs)
  where
    by : (b : Bool) → eqb x 10 ≡ b → FirstLine xs → FirstLine (x ∷ xs)
    by true e f =
        let feed : x ≡ 10 = eqb-true x 10 e in
        record { line = []; ended = true; taken = rw e (ap (λ y. y ∷ []) feed); clean = tt; is = (xs, ap (λ y. y ∷ xs) feed, tt, ap (λ b. Some (cond b xs (drop_through 10 xs))) e) }
    by false e f =
        let clean : NoFeed (x ∷ f.line) = (eqb-false x 10 e, f.clean) in
        record { line = x ∷ f.line; ended = f.ended; taken = rw e (ap (λ l. x ∷ l) f.taken); clean = clean; is = rw e (longer x xs f.line f.ended _ clean f.is) }

feed_last : (line : List ℕ) (x : ℕ) → NoFeed (line ++ x ∷ []) → eqb x 10 ≡ false
feed_last [] x n = ne_eqb x 10 n.0
feed_last (y ∷ line) x n = feed_last line x n.1

-- What `pop_if` leaves and returns if it removes the last byte when that is a line feed.
abbrev pub PopsFeed : List ℕ → List ℕ → Option ℕ → Type 0
PopsFeed items line popped =
    ((items ≡ []) × (line ≡ []) × (popped ≡ None))
    ⊎ ((xs : List ℕ) × (x : ℕ) × (items ≡ xs ++ x ∷ []) × (popped ≡ then_some (eqb x 10) x) × (line ≡ (if eqb x 10 then xs else xs ++ x ∷ [])))

popped : (items line first : List ℕ) (ended : Bool) (r : Option ℕ) → PopsFeed items line r → items ≡ first ++ (if ended then 10 ∷ [] else []) → NoFeed first → (line ≡ first) × (is_some r ≡ ended)
popped items line first true r (inl h) e clean = absurd (omega (arith, ap length (sym h.0 ∙ e), length_push first 10))
popped items line first true r (inr h) e clean =
    let same = same_from_push h.0 first h.1 10 (sym h.2 ∙ e) in
    let feed : eqb h.1 10 ≡ true = ap (λ x. eqb x 10) same.1 in
    ((rw feed at h.4) ∙ same.0, ap is_some (rw feed at h.3))
popped items line first false r (inl h) e clean = (h.1 ∙ sym h.0 ∙ e ∙ append-nil first, ap is_some h.2)
popped items line first false r (inr h) e clean =
    let whole : h.0 ++ h.1 ∷ [] ≡ first = sym h.2 ∙ e ∙ append-nil first in
    let other : eqb h.1 10 ≡ false = feed_last h.0 h.1 (subst NoFeed (sym whole) clean) in
    ((rw other at h.4) ∙ whole, ap is_some (rw other at h.3))

-- The next line of the bytes of a reader, if they are known.
pub next_line : (o left : Option (List ℕ)) (was items line : List ℕ) (r : Option ℕ) → was ≡ [] → IfSome o (λ xs. items ≡ was ++ take_through 10 xs) → DropsThrough o left 10 → PopsFeed items line r → IfSome o (λ xs. IsNextLine xs line (is_some r) left)
next_line None left was items line r empty bytes rest p = tt
next_line (Some xs) left was items line r empty bytes rest p =
    let f = first_line xs in
    let same = popped items line f.line f.ended r p (bytes ∙ ap (λ w. w ++ take_through 10 xs) empty ∙ f.taken) f.clean in
    rw (same.0, same.1, rest) f.is
