-- Which things survive a history of entries. `Puts e x` says that the entry `e` puts `x` in. `Touches e x` says that `e` touches
-- `x`. An entry that does not touch `x` leaves it in or out, as it was.
use Rattle.std.specs.Prelude.{◌≡◌, ◌↔◌, ◌⊎◌, Bool, true, List, ◌∷◌, ◌++◌, Contains}
use Rattle.bimap_base.specs.Sets.{shares}

module _ {E X : Type 0} (Puts Touches : E → X → Type 0) where
  -- No entry touches `x`.
  abbrev pub IsUntouched : List E → X → Type 0
  IsUntouched history x = (e : E) → Contains history e → Touches e x → ⊥

  -- Some entry puts `x` in, and no later entry touches it.
  pub record IsPutToStay (history : List E) (x : X) : Type 0 where
    pub before : List E
    pub entry : E
    pub later : List E
    pub split : history ≡ before ++ entry ∷ later
    pub puts : Puts entry x
    pub untouched : IsUntouched later x

  -- `x` was in S and no entry touches it, or some entry puts it in and no later entry touches it.
  abbrev pub Survives : (X → Type 0) → List E → X → Type 0
  Survives S history x = (S x × IsUntouched history x) ⊎ IsPutToStay history x

-- If pairs are inserted in order, each pair puts itself in.
abbrev pub PutsItself : {X : Type 0} → X → X → Type 0
PutsItself item p = p ≡ item

-- Each inserted pair touches the pairs that share a value with it.
abbrev pub TouchesSharing : {L R : Type 0} → (L → L → Bool) → (R → R → Bool) → L × R → L × R → Type 0
TouchesSharing same_left same_right item p = shares same_left same_right p item ≡ true

-- T is what survives of S and the items, if the items are inserted in order.
abbrev pub AreSurvivors : {L R : Type 0} → (L → L → Bool) → (R → R → Bool) → (L × R → Type 0) → List (L × R) → (L × R → Type 0) → Type 0
AreSurvivors {L} {R} same_left same_right S items T =
    (p : L × R) → T p ↔ Survives PutsItself (TouchesSharing same_left same_right) S items p
