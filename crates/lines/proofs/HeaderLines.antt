-- Laws of the header's line: what is printed is taken again, and what is taken was printed. Assumes nothing.
use Rattle.std.proofs.Common.{◌≡◌, ℕ, ◌^◌, ◌<◌, Bool, true, false, eqb, if◌then◌else◌, List, [], ◌∷◌, ◌++◌, append_assoc, get_or, Some, None, refl, sym, ap, ◌∙◌, subst, eqb-true, length, drop, ◌≤◌, arith}
use Rattle.std.proofs.lemmas.Option.{some_pair_parts}
use Rattle.std.proofs.lemmas.List.{drop_all}
use Rattle.lines.specs.Print.{print_fields, print_policy, print_header, PolicyFits, HeaderFits}
use Rattle.lines.specs.Take.{take_policy, take_header}
use Rattle.lines.specs.Reads.{Read, NoHeader, HeaderRead}
use Rattle.lines.specs.declared.Header.{Header}
use Rattle.lines.specs.declared.HeaderPolicy.{HeaderPolicy}
use Rattle.lines.specs.declared.HeaderPolicy.TheVariants.{Consecutive, Ratio, Windowed}
use Rattle.lines.proofs.After.{got, bound-back}
use Rattle.lines.proofs.Limits.{Within, limits_of, print_all, take_all, made_header, rest-there, rest_back, within-at, within-each, header-limits}

-- ---- there
-- a header's letter and values
abbrev letter : HeaderPolicy → ℕ
letter (Consecutive n) = 67
letter (Ratio w b m) = 82
letter (Windowed k p) = 87

abbrev values : HeaderPolicy → ℕ → ℕ → ℕ → List ℕ
values (Consecutive n) c t r = n ∷ c ∷ t ∷ r ∷ []
values (Ratio w b m) c t r = w ∷ b ∷ m ∷ c ∷ t ∷ r ∷ []
values (Windowed k p) c t r = k ∷ p ∷ c ∷ t ∷ r ∷ []

-- the line is its letter, its fields by the letter's limits and the feed
by-limits : (p : HeaderPolicy) (c t r : ℕ) (rest : List ℕ)
    → (print_policy p ++ (print_fields (c ∷ t ∷ r ∷ []) ++ (10 ∷ []))) ++ rest ≡ letter p ∷ (print_all (limits_of (letter p)) (values p c t r) ++ (10 ∷ rest))
unfolding print_policy print_all print_fields limits_of
by-limits (Consecutive n) c t r rest = simp append_assoc
by-limits (Ratio w b m) c t r rest = simp append_assoc
by-limits (Windowed k p) c t r rest = simp append_assoc

fits-within : (p : HeaderPolicy) (c t r : ℕ) → PolicyFits p → (c < 2 ^ 64) × (t < 2 ^ 32) × (r < 2 ^ 32) → Within (limits_of (letter p)) (values p c t r)
unfolding limits_of
fits-within (Consecutive n) c t r f g = (omega arith, (omega arith, (omega arith, (omega arith, tt))))
fits-within (Ratio w b m) c t r f g = (omega arith, (omega arith, (omega arith, (omega arith, (omega arith, (omega arith, tt))))))
fits-within (Windowed k p) c t r f g = (omega arith, (omega arith, (omega arith, (omega arith, (omega arith, tt)))))

made-there : (p : HeaderPolicy) (c t r : ℕ) (rest : List ℕ) → made_header (letter p) (values p c t r, rest) ≡ Some (record { policy = p; cooldown_ms = c; trials = t; required = r }, rest)
made-there (Consecutive n) c t r rest = refl
made-there (Ratio w b m) c t r rest = refl
made-there (Windowed k p) c t r rest = refl

header-there : (h : Header) (rest : List ℕ) → HeaderFits h → take_header (print_header h ++ rest) ≡ Some (h, rest)
unfolding print_header
header-there h rest f =
    let k = letter h.policy in
    let vs = values h.policy h.cooldown_ms h.trials h.required in
    rw (by-limits h.policy h.cooldown_ms h.trials h.required rest, header-limits k (print_all (limits_of k) vs ++ (10 ∷ rest)), rest-there (limits_of k) vs rest (fits-within h.policy h.cooldown_ms h.trials h.required f.0 (f.1, f.2, f.3)))
    (made-there h.policy h.cooldown_ms h.trials h.required rest)

-- ---- back
-- the values that were taken are a header's, and it fits
abbrev Is : ℕ → List ℕ → Header → Type 0
Is k vs h = HeaderFits h × (letter h.policy ≡ k) × (values h.policy h.cooldown_ms h.trials h.required ≡ vs)

made-back : (k : ℕ) (vs r : List ℕ) (h : Header) (rest : List ℕ) → Within (limits_of k) vs → made_header k (vs, r) ≡ Some (h, rest) → Is k vs h × (r ≡ rest)
unfolding limits_of
made-back k vs r h rest w q = go (eqb k 67) (eqb k 82) (eqb k 87) refl refl refl q
  where
    V : ℕ → ℕ
    V i = get_or vs i 0

    C : Header
    C = record { policy = Consecutive (V 0); cooldown_ms = V 1; trials = V 2; required = V 3 }

    R : Header
    R = record { policy = Ratio (V 0) (V 1) (V 2); cooldown_ms = V 3; trials = V 4; required = V 5 }

    W : Header
    W = record { policy = Windowed (V 0) (V 1); cooldown_ms = V 2; trials = V 3; required = V 4 }

    is : (d : Header) → got d r ≡ got h rest → Is k vs d → Is k vs h × (r ≡ rest)
    is d q o = let p = some_pair_parts d h r rest q in (subst (λ (x : Header). Is k vs x) p.0 o, p.1)

    go : (x y z : Bool) → eqb k 67 ≡ x → eqb k 82 ≡ y → eqb k 87 ≡ z → (if x then got C r else if y then got R r else if z then got W r else None) ≡ got h rest → Is k vs h × (r ≡ rest)
    go true y z a b c q =
        let l = eqb-true k 67 a in
        let u = rw l at w in
        let v = within-at (limits_of 67) vs u in
        is C q ((omega (arith, v 0 (omega arith)), omega (arith, v 1 (omega arith)), omega (arith, v 2 (omega arith)), omega (arith, v 3 (omega arith))), sym l, sym (within-each (limits_of 67) vs u))
    go false true z a b c q =
        let l = eqb-true k 82 b in
        let u = rw l at w in
        let v = within-at (limits_of 82) vs u in
        is R q
        (((omega (arith, v 0 (omega arith)), omega (arith, v 1 (omega arith)), omega (arith, v 2 (omega arith))), omega (arith, v 3 (omega arith)), omega (arith, v 4 (omega arith)), omega (arith, v 5 (omega arith))), sym l, sym (within-each (limits_of 82) vs u))
    go false false true a b c q =
        let l = eqb-true k 87 c in
        let u = rw l at w in
        let v = within-at (limits_of 87) vs u in
        is W q
        (((omega (arith, v 0 (omega arith)), omega (arith, v 1 (omega arith))), omega (arith, v 2 (omega arith)), omega (arith, v 3 (omega arith)), omega (arith, v 4 (omega arith))), sym l, sym (within-each (limits_of 87) vs u))
    go false false false a b c q = cc

header-back : (bs : List ℕ) (h : Header) (rest : List ℕ) → take_header bs ≡ Some (h, rest) → HeaderFits h × (bs ≡ print_header h ++ rest)
unfolding take_header take_policy print_header
header-back [] h rest e = cc
header-back (k ∷ bs) h rest e = go (bound-back (take_all (limits_of k) bs) (made_header k) (h, rest) (sym (header-limits k bs) ∙ e))
  where
    go : (p : List ℕ × List ℕ) × (take_all (limits_of k) bs ≡ Some p) × (made_header k p ≡ Some (h, rest)) → HeaderFits h × (k ∷ bs ≡ print_header h ++ rest)
    go ((vs, r), p, q) =
        let b = rest_back (limits_of k) bs vs r p in
        let m = made-back k vs r h rest b.0 q in
        (m.0.0, rw (by-limits h.policy h.cooldown_ms h.trials h.required rest, m.0.1, m.0.2, ← m.1) (ap (λ (t : List ℕ). k ∷ t) b.1))

-- ---- what a reader's answer says of the bytes
pub header_read : (s : List ℕ) (r : Read Header) → r ≡ take_header s → HeaderRead s r
header_read s (Some (h, rest)) e = header-back s h rest (sym e)
header_read s None e = λ h rest f q. let t = header-there h rest f in cc

-- at the end, and at a place past it, stands none
pub header-end : (s : List ℕ) (at : ℕ) → length s ≤ at → NoHeader (drop at s)
unfolding take_header take_policy
header-end s at h d rest f e = let x = drop_all at s h in let t = header-there d rest f in let z : take_header [] ≡ None = refl in cc

-- bytes begin with one header's line at most
pub same-header : (c d : Header) (x y : List ℕ) → HeaderFits c → HeaderFits d → print_header c ++ x ≡ print_header d ++ y → (c ≡ d) × (x ≡ y)
same-header c d x y f g e = let a = header-there c x f in let b = header-there d y g in some_pair_parts c d x y (cc)
