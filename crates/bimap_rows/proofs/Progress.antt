-- The progress by one line.
use Rattle.std.proofs.Common.{◌≡◌, ◌⊎◌, ℕ, List, [], ◌∷◌, ◌++◌, Option, None, Some, IfSome, Bool, true, false, length, ◌+◌, refl, sym, ap, subst, ◌∙◌, inl, inr, Result, Ok, Err, MatchResult, append-nil}
use Rattle.std.specs.Io.KnownBytes.{Appends}
use Rattle.std.proofs.KnownBytes.{Appends-nil, Appends-trans}
use Rattle.std.proofs.lemmas.Grind.{flat_map-append}
use Rattle.std.proofs.lemmas.List.{length_push, map_push}
use Rattle.std.proofs.lemmas.Option.{IfSome_then}
use Rattle.bimap_rows.specs.Lines.{Request, NoFeed, AreLinesThen, Says, SaysCall, IsBad, text_of, SaysAtFirst, SaysInAll, SaysBefore, reply_line}
use Rattle.bimap_rows.specs.Serving.{Answered, LeadsTo, calls, told, IsServed, IsReadOut, Stops}
use Rattle.bimap_rows.specs.Steps.{IsNextLine, TakesLine, StopsAtLine}
use Rattle.bimap_rows.specs.declared.serve.Ending.{Ending}
use Rattle.bimap_rows.specs.declared.serve.Ending.TheVariants.{InputFailed, OutputFailed, BadLine, NoMemory}
use Rattle.bimap_rows.proofs.Leading.{LeadsTo_push, LeadsTo_none}

-- This number of lines was read. They name the calls, and these bytes are left.
pub record HasRead (bytes : List ℕ) (left : Option (List ℕ)) (number : ℕ) (said : List Request) : Type 0 where
  pub lines : List (List ℕ)
  pub rest : List ℕ
  pub left_is : left ≡ Some rest
  pub are : AreLinesThen bytes lines rest
  pub count : length lines ≡ number
  pub say : Says lines said

-- A history of the calls of these lines leads from no pairs to these pairs, and its replies were written.
pub record HasServed (input left : Option (List ℕ)) (number : ℕ) (before after : Option (List ℕ)) (pairs : List (ℕ × ℕ)) : Type 0 where
  pub history : List Answered
  pub leads : LeadsTo [] history pairs
  pub read : IfSome input (λ bytes. HasRead bytes left number (calls history))
  pub wrote : Appends before after (told history)

push_line : (bytes : List ℕ) (lines : List (List ℕ)) (rest line more : List ℕ) → AreLinesThen bytes lines rest → rest ≡ line ++ 10 ∷ more → NoFeed line → AreLinesThen bytes (lines ++ line ∷ []) more
push_line bytes [] rest line more h e n = (more, h ∙ e, n, refl)
push_line bytes (l ∷ lines) rest line more h e n = (h.0, h.1, h.2, push_line h.0 lines rest line more h.3 e n)

-- What one more line adds to the calls.
abbrev Adds : List ℕ → List Request → List Request → Type 0
Adds line said more = ((text_of line ≡ []) × (more ≡ said)) ⊎ ((call : Request) × SaysCall (text_of line) call × (more ≡ said ++ call ∷ []))

Says_push : (lines : List (List ℕ)) (line : List ℕ) (said more : List Request) → Says lines said → Adds line said more → Says (lines ++ line ∷ []) more
Says_push [] line said more e (inl h) = inl (h.0, h.1 ∙ e)
Says_push [] line said more e (inr h) = inr (h.0, [], h.2 ∙ ap (λ k. k ++ h.0 ∷ []) e, h.1, refl)
Says_push (l ∷ lines) line said more (inl s) a = inl (s.0, Says_push lines line said more s.1 a)
Says_push (l ∷ lines) line said more (inr s) (inl h) = inr (s.0, s.1, h.1 ∙ s.2, s.3, Says_push lines line s.1 s.1 s.4 (inl (h.0, refl)))
Says_push (l ∷ lines) line said more (inr s) (inr h) = inr (s.0, s.1 ++ h.0 ∷ [], h.2 ∙ ap (λ r. r ++ h.0 ∷ []) s.2, s.3, Says_push lines line s.1 (s.1 ++ h.0 ∷ []) s.4 (inr (h.0, h.1, refl)))

module _ {bytes : List ℕ} {left : Option (List ℕ)} {number : ℕ} {said : List Request} (r : HasRead bytes left number said) (line : List ℕ) where
  here : (P : List ℕ → Type 0) → IfSome left P → P r.rest
  here P p = subst (λ o. IfSome o P) r.left_is p

  next_read : (more : List Request) (after : Option (List ℕ)) → Adds line said more → IfSome left (λ b. IsNextLine b line true after) → HasRead bytes after (number + 1) more
  next_read more after a p =
      let n = here (λ b. IsNextLine b line true after) p in
      record { lines = r.lines ++ line ∷ []; rest = n.0; left_is = n.3; are = push_line bytes r.lines r.rest line n.0 r.are n.1 n.2; count = length_push r.lines line ∙ ap (λ k. k + 1) r.count; say = Says_push r.lines line said more r.say a }

  last_read : (more : List Request) (after : Option (List ℕ)) → Adds line said more → IfSome left (λ b. IsNextLine b line false after) → SaysInAll bytes more
  last_read more after a p =
      let n = here (λ b. IsNextLine b line false after) p in
      record { lines = r.lines; last = line; are = subst (AreLinesThen bytes r.lines) n.0 r.are; whole = n.1; say = Says_push r.lines line said more r.say a }

  next_is : (ended : Bool) (after : Option (List ℕ)) → IsNextLine r.rest line ended after → NoFeed line × ((r.rest ≡ line) ⊎ ((more : List ℕ) × (r.rest ≡ line ++ 10 ∷ more)))
  next_is true after n = (n.2, inr (n.0, n.1))
  next_is false after n = (n.1, inl n.0)

  bad_read : (ended : Bool) (after : Option (List ℕ)) → IsBad line → IfSome left (λ b. IsNextLine b line ended after) → SaysBefore (number + 1) bytes said
  bad_read ended after b p =
      let n = next_is ended after (here (λ x. IsNextLine x line ended after) p) in
      record { lines = r.lines; rest = r.rest; are = r.are; say = r.say; place = ap (λ k. k + 1) r.count; line = line; whole = n.0; next = n.1; bad = b }

told_push : (history : List Answered) (e : Answered) → told (history ++ e ∷ []) ≡ told history ++ reply_line e.1
told_push history e = flat_map-append (λ x. reply_line x.1) history (e ∷ []) ∙ ap (λ l. told history ++ l) (append-nil (reply_line e.1))

unwritten : (o p q : Option (List ℕ)) (bs : List ℕ) → Appends o p bs → Appends p q [] → Appends o q bs
unwritten o p q bs a b = subst (Appends o q) (append-nil bs) (Appends-trans o p q bs [] a b)

-- The history after a line that was accepted.
record Took (line : List ℕ) (before after : Option (List ℕ)) (said : List Request) (pairs : List (ℕ × ℕ)) : Type 0 where
  pub history : List Answered
  pub leads : LeadsTo [] history pairs
  pub adds : Adds line said (calls history)
  pub wrote : Appends before after (told history)

module _ {input left : Option (List ℕ)} {number : ℕ} {before between : Option (List ℕ)} {pairs : List (ℕ × ℕ)} (s : HasServed input left number before between pairs) where
  pub first_served : (after : Option (List ℕ)) → Appends between after [] → IsServed SaysAtFirst input before after pairs []
  first_served after a = record { history = s.history; leads = s.leads; says = IfSome_then input s.read (λ bytes r. record { lines = r.lines; rest = r.rest; are = r.are; say = r.say }); wrote = Appends-trans before between after (told s.history) [] s.wrote a }

  -- The next line could not be read.
  pub stopped_reading : (ending : Ending) → (ending ≡ NoMemory) ⊎ (ending ≡ InputFailed) → Stops ending input before between
  stopped_reading ending (inl e) = rw e (pairs, first_served between (Appends-nil between))
  stopped_reading ending (inr e) = rw e (pairs, first_served between (Appends-nil between))

  module _ (line : List ℕ) (rest after : Option (List ℕ)) where
    took : (new : List (ℕ × ℕ)) → TakesLine line pairs new between after → Took line before after (calls s.history) new
    took new (inl h) = record { history = s.history; leads = subst (LeadsTo [] s.history) (sym h.1) s.leads; adds = inl (h.0, refl); wrote = unwritten before between after (told s.history) s.wrote h.2 }
    took new (inr h) = record {
      history = s.history ++ h.0 ∷ [];
      leads = LeadsTo_push [] s.history pairs h.0 new s.leads h.2;
      adds = inr (h.0.0, h.1, map_push (λ e. e.0) s.history h.0);
      wrote = subst (Appends before after) (sym (told_push s.history h.0)) (Appends-trans before between after (told s.history) (reply_line h.0.1) s.wrote h.3);
    }

    -- After a line that has a line feed.
    pub next_served : (new : List (ℕ × ℕ)) → TakesLine line pairs new between after → IfSome left (λ b. IsNextLine b line true rest) → HasServed input rest (number + 1) before after new
    next_served new h p =
        let t = took new h in
        record { history = t.history; leads = t.leads; read = IfSome_then input s.read (λ bytes r. next_read r line (calls t.history) rest t.adds p); wrote = t.wrote }

    -- After the last line no byte is left.
    pub all_read : IfSome left (λ b. IsNextLine b line false rest) → IsReadOut input rest
    all_read p = IfSome_then input s.read (λ bytes r. (here r line (λ b. IsNextLine b line false rest) p).2)

    -- After the last line everything is served.
    pub all_served : (new : List (ℕ × ℕ)) → TakesLine line pairs new between after → IfSome left (λ b. IsNextLine b line false rest) → IsServed SaysInAll input before after new []
    all_served new h p =
        let t = took new h in
        record { history = t.history; leads = t.leads; says = IfSome_then input s.read (λ bytes r. last_read r line (calls t.history) rest t.adds p); wrote = subst (Appends before after) (sym (append-nil (told t.history))) t.wrote }

    -- At a line that was not accepted.
    pub stopped_at : (ended : Bool) (ending : Ending) → StopsAtLine line (number + 1) ending between after → IfSome left (λ b. IsNextLine b line ended rest) → Stops ending input before after
    stopped_at ended OutputFailed h p = tt
    stopped_at ended (BadLine n) h p = (
      pairs,
      record {
        history = s.history;
        leads = s.leads;
        says = IfSome_then input s.read (λ bytes r. subst (λ k. SaysBefore k bytes (calls s.history)) (sym h.0) (bad_read r line ended rest h.1 p));
        wrote = Appends-trans before between after (told s.history) [] s.wrote h.2;
      },
    )
    stopped_at ended NoMemory h p = (pairs, first_served after h)
    stopped_at ended ending h p = absurd h

pub none_served : (input out : Option (List ℕ)) (pairs : List (ℕ × ℕ)) → pairs ≡ [] → Appends out out [] → HasServed input input 0 out out pairs
none_served input out pairs e a = record { history = []; leads = LeadsTo_none pairs e; read = known input; wrote = a }
  where
    known : (o : Option (List ℕ)) → IfSome o (λ bytes. HasRead bytes o 0 [])
    known None = tt
    known (Some bytes) = record { lines = []; rest = bytes; left_is = refl; are = refl; count = refl; say = refl }

-- If `map_err` returned `Ok` with a value, it was given `Ok` with this value.
pub value_of : {X E : Type 0} (D : Type 0) (r : Result X E) (x : X) → MatchResult r (λ y. ◌≡◌ {A = Result X D} (Ok x) (Ok y)) (λ e. ⊥) → r ≡ Ok x
value_of D (Ok y) x h = cc
value_of D (Err e) x h = absurd h

pub fault_of : {X E D : Type 0} (r : Result X E) (d : D) {P : E → Type 0} {Q : Type 0} → MatchResult r (λ y. ◌≡◌ {A = Result X D} (Err d) (Ok y)) P → ((e : E) → P e → Q) → Q
fault_of (Ok y) d h f = absurd cc
fault_of (Err e) d h f = f e h
