-- The map of a JSON text.
use Rattle.std.specs.Prelude.{◌≡◌, ◌⊎◌, ℕ, ◌<◌, Bool, List, length, Some, None, Result, IsSomeAnd, IsErrAnd}
use Rattle.serde_json.specs.Data.{Data}
use Rattle.serde_json.specs.Read.{read as read_text}
use Rattle.json.specs.Json.{document}
use Rattle.json.specs.Strict.{HasUniqueKeys}
use Rattle.bimap_base.specs.Holding.{Holding}
use Rattle.bimap_base.specs.declared.policy.OnHeld.TheVariants.{Refuse}
use Rattle.bimap_base.specs.declared.policy.Policy.{Policy}
use Rattle.bimap.specs.JsonObjects.{ReadsObjectUnder}
use Rattle.bimap.specs.declared.value.object.JsonFault.{JsonFault}
use Rattle.bimap.specs.declared.value.object.JsonFault.TheVariants.{NotJson, NameTwice, Memory}

-- The text is JSON, and no object in it has a name twice.
abbrev pub IsNamedOnce : List ℕ → Type 0
IsNamedOnce text = IsSomeAnd (document text) HasUniqueKeys

-- What is wrong with the text itself.
-- `NotJson`: it does not match the grammar of JSON, or it has a number or a nesting depth that is not supported.
-- `NameTwice`: an object in it has a name twice, and the policy keeps lefts.
-- This is checked after the grammar and before numbers and depth.
-- `Memory`: any text except the empty one may run out of memory, because reading allocates before it knows anything
-- about the text.
abbrev pub IsTextFault : List ℕ → Policy → JsonFault → Type 0
IsTextFault text policy NotJson = (document text ≡ None) ⊎ ((policy.left ≡ Refuse → IsNamedOnce text) × (read_text text ≡ None))
IsTextFault text policy NameTwice = (policy.left ≡ Refuse) × IsSomeAnd (document text) (λ json. ¬ HasUniqueKeys json)
IsTextFault text policy Memory = 0 < length text
IsTextFault text policy _ = ⊥

-- The text is this JSON value. If the policy keeps lefts, no object in it has a name twice.
pub record IsTextOf (value : Data) (text : List ℕ) (policy : Policy) : Type 0 where
  pub is_read : read_text text ≡ Some value
  pub named_once : policy.left ≡ Refuse → IsNamedOnce text

-- What reading a text under a policy into an empty map with this many places returns.
-- Either something is wrong with the text, or the result is that of reading its value.
abbrev pub ReadsTextUnder : {L R B : Type 0} → (List ℕ → L → Type 0) → (Data → R → Type 0) → (L → L → Bool) → (R → R → Bool)
    → (B → Holding L R) → ℕ → List ℕ → Policy → Result B JsonFault → Type 0
ReadsTextUnder reads_key reads same_left same_right holding places text policy result =
    IsErrAnd result (IsTextFault text policy)
    ⊎ ((v : Data) × IsTextOf v text policy × ReadsObjectUnder reads_key reads same_left same_right holding places v policy result)
