-- Laws of the replay: the loop's turns, the whole answer, and that a journal has one answer only. Assumes nothing.
use mathlib.Core.Path.{◌≡◌, refl, sym, ap, ◌∙◌}
use mathlib.Core.Bool.{Bool, true, false}
use mathlib.Core.List.{List, [], ◌∷◌, ◌++◌, append_assoc}
use Prim.Native.Nat.{ℕ, suc, ◌+◌, ◌≤◌, ◌<◌, min}
use native.Mathlib.Numerals.{add-one}
use native.Mathlib.Omega.{arith}
use lib.Dec.{ltb}
use lib.ListN.{length, take, drop, length-append, length-take}
use lib.Seq.{drop-drop, take_all, take-take, length-take-le}
use borrow.Author.Tests.{ltb-true, ltb-false, lt-ltb, le-ltb}
use Rattle.std.specs.Prelude.{Result, Ok, Err}
use Rattle.history.specs.Items.{padded}
use Rattle.error.specs.Told.{number_of}
use Rattle.error.specs.declared.Refusal.{Refusal}
use Rattle.trip.specs.declared.Config.{Config}
use Rattle.trip.specs.Settings.{built_of}
use Rattle.breaker.specs.declared.Breaker.{Breaker}
use Rattle.breaker.specs.Record.{Settings, State, settings}
use Rattle.lines.specs.declared.Call.{Call}
use Rattle.lines.specs.declared.Header.{Header}
use Rattle.lines.specs.Print.{print_decimal, decimal_in, print_line, print_call, CallFits, print_header, HeaderFits}
use Rattle.lines.specs.Reads.{NoCall, NoHeader}
use Rattle.lines.proofs.CallLines.{call-end, same-call}
use Rattle.lines.proofs.HeaderLines.{same-header}
use Rattle.journal.specs.Replay.{called, answer_line, malformed_line, builder_of, Replays, finished, call, malformed, Answers, headless, refused, headed, Journal, Replaying, ReadInto, ReplayingRead}
use Rattle.journal.specs.Laid.{laid}
use Rattle.journal.specs.Steps.{Ends}
use Rattle.journal.proofs.Laid.{take-laid, drop-laid}
use Rattle.journal.proofs.Building.{IsMade}

-- ---- a call's line is not short
length-pos : (n : ℕ) → 1 ≤ length (print_decimal n)
unfolding print_decimal decimal_in
length-pos n = simp length-append (omega arith)

pub call_long : (c : Call) (bs rest : List ℕ) → bs ≡ print_call c ++ rest → length rest + 4 ≤ length bs
unfolding print_call
call_long c bs rest e = rw e (simp length-append (omega (arith, length-pos c.reading)))

pub not_call : NoCall []
not_call = call-end [] 0 (omega arith)

-- ---- what is written
pub written : (out out' : List ℕ) (end end' : ℕ) (xs : List ℕ) → end' ≡ end + length xs → out' ≡ laid end xs out → end' ≤ length out → take end' out' ≡ take end out ++ xs
written out out' end end' xs e l h = rw (l, e) (take-laid out end xs (omega arith))

pub kept : (out out' out₀ : List ℕ) (end end' : ℕ) (xs : List ℕ) → end' ≡ end + length xs → out' ≡ laid end xs out → end' ≤ length out → drop end out ≡ drop end out₀
    → drop end' out' ≡ drop end' out₀
kept out out' out₀ end end' xs e l h k =
    rw (l, e) (drop-laid out end xs (omega arith) ∙ sym (drop-drop (length xs) end out) ∙ ap (λ (t : List ℕ). drop (length xs) t) k ∙ drop-drop (length xs) end out₀)

-- ---- the loop
module _ (more : Bool) (S : Settings) (st₀ : State) (input : List ℕ) where
  -- whatever answers the rest completes the answer
  abbrev pub So : List ℕ → List ℕ → ℕ → ℕ → State → Type 0
  So out rest end line st = (answers : List ℕ) (fin : State) → Replays more S line st rest answers fin → Replays more S 2 st₀ input (take end out ++ answers) fin

  pub turn : (out out' rest rest' : List ℕ) (end end' line : ℕ) (st st' : State) (c : Call) (xs : List ℕ) → CallFits c → rest ≡ print_call c ++ rest'
      → st' ≡ (called c S st).after → xs ≡ answer_line (called c S st).told st' → end' ≡ end + length xs → out' ≡ laid end xs out → end' ≤ length out
      → So out rest end line st → So out' rest' end' (line + 1) st'
  turn out out' rest rest' end end' line st st' c xs f e q a n l h so answers fin r =
      rw (written out out' end end' xs n l h, append_assoc (take end out) xs answers)
      (so (xs ++ answers) fin (call c rest' answers f e (rw (a, q) refl) (rw (add-one, q) at r)))

  pub last : (out out' rest : List ℕ) (end end' line : ℕ) (st : State) (xs : List ℕ) → Replays more S line st rest xs st
      → end' ≡ end + length xs → out' ≡ laid end xs out → end' ≤ length out → So out rest end line st → Replays more S 2 st₀ input (take end' out') st
  last out out' rest end end' line st xs r n l h so = rw (written out out' end end' xs n l h) (so xs st r)

-- ---- the whole answer, by what was written
module _ (more : Bool) (input places out out' : List ℕ) (end : ℕ) (enough : end ≤ length out) where
  pub answers-headless : NoHeader input → end ≡ 0 + length (malformed_line 1) → out' ≡ laid 0 (malformed_line 1) out → Answers more input places (take end out') places
  answers-headless k e l = rw (written out out' 0 end (malformed_line 1) e l enough) (headless k)

  pub answers-refused : (places' : List ℕ) (h : Header) (rest : List ℕ) (r : Refusal) → HeaderFits h → input ≡ print_header h ++ rest → (built_of (builder_of h) ≡ Err r) × (places' ≡ places)
      → end ≡ 0 + length (print_line 69 (number_of r ∷ [])) → out' ≡ laid 0 (print_line 69 (number_of r ∷ [])) out → Answers more input places (take end out') places'
  answers-refused places' h rest r f i (b, s) e l = rw (s, written out out' 0 end (print_line 69 (number_of r ∷ [])) e l enough) (refused h rest r f i b)

pub answers-headed : (more : Bool) (input places output left : List ℕ) (h : Header) (rest : List ℕ) (b : Breaker) (s : List ℕ) → HeaderFits h → input ≡ print_header h ++ rest
    → IsMade h b s → Ends more b s rest output left → Answers more input places output left
answers-headed more input places output left h rest b s f i (c, m, q, st, ok) (end, r, p) = rw p (headed h rest c end f i m (rw (q, st) at r))

-- ---- the limit
pub take-least : (n k : ℕ) (xs : List ℕ) → k ≡ min n (length xs) → take k xs ≡ take n xs
take-least n k xs e = go (ltb n (length xs)) refl
  where
    go : (x : Bool) → ltb n (length xs) ≡ x → take k xs ≡ take n xs
    go true q = let l = ltb-true n (length xs) q in let m : k ≡ n = omega arith in rw m refl
    go false q = let l = ltb-false n (length xs) q in take_all k xs (omega arith) ∙ sym (take_all n xs l)

pub take_limit : (xs : List ℕ) (n : ℕ) → n ≡ min (length xs) 65536 → (length (take n xs) ≡ n) × (take n xs ≡ take 65536 xs) × (ltb n (length xs) ≡ ltb 65536 (length xs))
take_limit xs n e = (length-take-le n xs (omega arith), take-least 65536 n xs (omega arith), go (ltb 65536 (length xs)) refl)
  where
    go : (x : Bool) → ltb 65536 (length xs) ≡ x → ltb n (length xs) ≡ ltb 65536 (length xs)
    go true q = let l = ltb-true 65536 (length xs) q in lt-ltb n (length xs) (omega arith) ∙ sym q
    go false q = let l = ltb-false 65536 (length xs) q in le-ltb n (length xs) (omega arith) ∙ sym q

-- a buffer of more bytes than the limit shows of a journal all that its answer hangs on
same_more : (n : ℕ) (xs : List ℕ) → 65536 < n → ltb 65536 (length (take n xs)) ≡ ltb 65536 (length xs)
same_more n xs h = rw length-take (go (ltb 65536 (length xs)) refl)
  where
    go : (x : Bool) → ltb 65536 (length xs) ≡ x → ltb 65536 (min n (length xs)) ≡ ltb 65536 (length xs)
    go true q = let l = ltb-true 65536 (length xs) q in lt-ltb 65536 (min n (length xs)) (omega arith) ∙ sym q
    go false q = let l = ltb-false 65536 (length xs) q in le-ltb 65536 (min n (length xs)) (omega arith) ∙ sym q

whole-journal : (buffer whole : List ℕ) (n : ℕ) (s o s' : List ℕ) → 65536 < length buffer → ReadInto buffer n whole → Journal (take n buffer) s o s' → Journal whole s o s'
whole-journal buffer whole n s o s' h e j =
    rw (← same_more (length buffer) whole h, ← take-take 65536 (length buffer) whole (omega arith)) (rw e at j)

pub read_whole : (buffer : List ℕ) (n k : ℕ) (s s' out out' : List ℕ) (end : ℕ) → 65536 < length buffer → k ≡ min n (length buffer)
    → Replaying (take k buffer) s s' out out' (Ok end) → ReplayingRead buffer n s s' out out' end
read_whole buffer n k s s' out out' end h e (room, places, journal, rest) =
    (λ whole w. whole-journal buffer whole n s (take end out') s' h w (rw (take-least n k buffer e) at journal), rest)

-- ---- one answer only
one-replay : (more : Bool) (S : Settings) (n : ℕ) (st : State) (input x y : List ℕ) (e f : State) → Replays more S n st input x e → Replays more S n st input y f → (x ≡ y) × (e ≡ f)
one-replay more S n st input x y e f (finished p) (finished q) = (refl, refl)
one-replay more S n st input x y e f (finished p) (call c rest answers g i o r) = absurd (not_call c rest g i)
one-replay more S n st input x y e f (finished p) (malformed m k) = let t = m refl in let z : ◌≡◌ {A = ℕ} 0 1 = cc in absurd (omega arith)
one-replay more S n st input x y e f (call c rest answers g i o r) (finished p) = absurd (not_call c rest g i)
one-replay more S n st input x y e f (call c rest answers g i o r) (malformed m k) = absurd (k c rest g i)
one-replay more S n st input x y e f (malformed m k) (finished p) = let t = m refl in let z : ◌≡◌ {A = ℕ} 0 1 = cc in absurd (omega arith)
one-replay more S n st input x y e f (malformed m k) (call c rest answers g i o r) = absurd (k c rest g i)
one-replay more S n st input x y e f (malformed m k) (malformed m' k') = (refl, refl)
one-replay more S n st input x y e f (call c rest answers g i o r) (call c' rest' answers' g' i' o' r') =
    let m = same-call c c' rest rest' g g' (sym i ∙ i') in
    let a = one-replay more S (suc n) (called c S st).after rest answers answers' e f r (rw (← m.0, ← m.1) at r') in
    (cc (m.0, a.0), a.1)

-- a header is refused or makes a breaker
not-both : (x : Result Config Refusal) (c : Config) (r : Refusal) → x ≡ Ok c → x ≡ Err r → ⊥
not-both x c r p q = let z : ◌≡◌ {A = ℕ} 0 1 = cc in omega arith

one : (more : Bool) (input s x y s' s'' : List ℕ) → Answers more input s x s' → Answers more input s y s'' → (x ≡ y) × (s' ≡ s'')
one more input s x y s' s'' (headless k) (headless l) = (refl, refl)
one more input s x y s' s'' (headless k) (refused h rest r f e b) = absurd (k h rest f e)
one more input s x y s' s'' (headless k) (headed h rest c end f e b r) = absurd (k h rest f e)
one more input s x y s' s'' (refused h rest r f e b) (headless k) = absurd (k h rest f e)
one more input s x y s' s'' (headed h rest c end f e b r) (headless k) = absurd (k h rest f e)
one more input s x y s' s'' (refused h rest r f e b) (refused h' rest' r' f' e' b') =
    let m = same-header h h' rest rest' f f' (sym e ∙ e') in
    let z : built_of (builder_of h) ≡ Err r' = rw m.0 b' in
    let q : r ≡ r' = cc in
    (rw q refl, refl)
one more input s x y s' s'' (refused h rest r f e b) (headed h' rest' c' end' f' e' b' r') =
    let m = same-header h h' rest rest' f f' (sym e ∙ e') in
    absurd (not-both (built_of (builder_of h)) c' r (rw m.0 b') b)
one more input s x y s' s'' (headed h rest c end f e b r) (refused h' rest' r' f' e' b') =
    let m = same-header h h' rest rest' f f' (sym e ∙ e') in
    absurd (not-both (built_of (builder_of h)) c r' b (rw m.0 b'))
one more input s x y s' s'' (headed h rest c end f e b r) (headed h' rest' c' end' f' e' b' r') =
    let m = same-header h h' rest rest' f f' (sym e ∙ e') in
    let z : built_of (builder_of h) ≡ Ok c' = rw m.0 b' in
    let q : c ≡ c' = cc in
    let a = one-replay more (settings c) 2 _ rest x y end end' r (rw (← q, ← m.1) at r') in
    (a.0, ap (λ (st : State). padded st.list) a.1)

-- the relation leaves no choice
pub one_answer : (input s o p s' s'' : List ℕ) → Journal input s o s' → Journal input s p s'' → (o ≡ p) × (s' ≡ s'')
one_answer input s o p s' s'' = one (ltb 65536 (length input)) (take 65536 input) s o p s' s''
