-- What the text of a byte string reads as, and how deep an object of numbers is.
use Rattle.std.proofs.Common.{◌≡◌, ◌≤◌, ◌<◌, ℕ, Bool, true, false, [], ◌∷◌, length, List, Some, Option, Result, Ok, Err, Contains, nat_eq, refl, ap, subst, arith}
use Rattle.std.specs.Cmp.Lexicographic.{bytes_decides}
use Rattle.std.specs.Bool.{MatchBool}
use Rattle.std.specs.List.{AllWithin, HoldsAt}
use Rattle.std.specs.Str.{IsUtf8}
use Rattle.std.proofs.lemmas.List.Elements.{All-from_all_within}
use Rattle.serde_json.specs.Data.{Num, Data, object, number, Members, no_members, member, depth, members_depth}
use Rattle.serde_json.specs.Find.{as_object}
use Rattle.bimap_base.proofs.Members.{head_in, more_in}
use Rattle.bimap.specs.Holding.{Holding}
use Rattle.bimap.specs.JsonDocument.{ReadsTextUnder}
use Rattle.bimap.specs.JsonObjects.{Entry, entries_of}
use Rattle.bimap.specs.JsonReading.{ReadsBack}
use Rattle.bimap.specs.JsonTexts.{IsUnsignedValue}
use Rattle.bimap.specs.Types.{Policy, Refuse}
use Rattle.bimap.specs.declared.value.object.JsonFault.{JsonFault}
use Rattle.bimap_c.specs.Bytes.{same_bytes}
use Rattle.bimap_c.specs.Json.{AreTexts}
use Rattle.bimap_c.specs.declared.byte_string.ByteString.{ByteString}

pub back : (s : ByteString) → ReadsBack same_bytes (λ b. b.bytes.items ≡ s.bytes.items) s
back s = record { as_value = s; reads = refl; only = λ k e. (bytes_decides k.bytes.items s.bytes.items).1 e }

flat : (ms : Members) → ((e : Entry) → Contains (entries_of ms) e → (n : Num) × (e.1 ≡ number n)) → members_depth ms ≡ 0
flat no_members each = refl
flat (member k d ms) each =
    let first = each (k, d) (head_in (k, d) (entries_of ms)) in
    omega (arith, ap depth first.1, flat ms (λ e m. each e (more_in (k, d) (entries_of ms) e m)))

-- An object of numbers is not deep.
pub shallow : (value : Data) (ms : Members) → as_object value ≡ Some ms → ((e : Entry) → Contains (entries_of ms) e → (n : Num) × (e.1 ≡ number n)) → depth value ≤ 1
shallow (object m) ms e each = let same : m ≡ ms = cc e in omega (arith, ap members_depth same, flat ms each)
shallow value ms e each = absurd (cc e)

abbrev Read : {B : Type 0} → (B → Holding ByteString ℕ) → ℕ → List ℕ → Result B JsonFault → Type 0
Read holding places text result = ReadsTextUnder (λ t b. b.bytes.items ≡ t) (IsUnsignedValue 64) same_bytes nat_eq holding places text (record { left = Refuse; right = Refuse }) result

-- What was read from a text, by its bytes and by what the map contains.
pub read_as : {B : Type 0} (holding : B → Holding ByteString ℕ) (places : ℕ) (text bytes : List ℕ) (b : B) → places ≡ 0 → text ≡ bytes → Read holding places text (Ok b) → Read (λ held. held) 0 bytes (Ok (holding b))
read_as holding places text bytes b p q h = subst (λ n. Read (λ held. held) n bytes (Ok (holding b))) p (subst (λ t. Read (λ held. held) places t (Ok (holding b))) q h)

pub unread_as : {B : Type 0} (holding : B → Holding ByteString ℕ) (places : ℕ) (text bytes : List ℕ) (fault : JsonFault) → places ≡ 0 → text ≡ bytes → Read holding places text (Err fault) → Read {B = Holding ByteString ℕ} (λ held. held) 0 bytes (Err fault)
unread_as holding places text bytes fault p q h = subst (λ n. Read {B = Holding ByteString ℕ} (λ held. held) n bytes (Err fault)) p (subst (λ t. Read {B = Holding ByteString ℕ} (λ held. held) places t (Err fault)) q h)

-- What `all` returned for the texts.
abbrev Tested : List (ByteString × ℕ) → Bool → Type 0
Tested pairs r = MatchBool r (AllWithin (λ p. IsUtf8 p.0.bytes.items) pairs 0 (length pairs)) ((k : ℕ) × (k < length pairs) × HoldsAt (λ p. IsUtf8 p.0.bytes.items → ⊥) pairs k)

pub all_texts : (pairs : List (ByteString × ℕ)) (r : Bool) → r ≡ true → Tested pairs r → AreTexts pairs
all_texts pairs r e t = All-from_all_within (λ p. IsUtf8 p.0.bytes.items) pairs (subst (Tested pairs) e t)

pub some_other : (pairs : List (ByteString × ℕ)) (r : Bool) → r ≡ false → Tested pairs r → AreTexts pairs → ⊥
some_other [] r e t all = let w = subst (Tested []) e t in absurd (omega (arith, w.1))
some_other (p ∷ pairs) r e t all = let w = subst (Tested (p ∷ pairs)) e t in w.2 p (all w.0 p w.1)
