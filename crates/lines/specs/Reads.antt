-- What a reader's answer says of the bytes, by printing alone and in both directions. Definitions only.
use Rattle.std.specs.Prelude.{ℕ, ◌≡◌, List, ◌++◌, Option, Some, None, option_map}
use Rattle.std.specs.Borrow.{Bor}
use Rattle.lines.specs.Print.{print_call, CallFits, print_header, HeaderFits}
use Rattle.lines.specs.declared.Call.{Call}
use Rattle.lines.specs.declared.Header.{Header}

-- a value and the bytes that are left after it, or none
abbrev pub Read : Type 0 → Type 0
Read A = Option (A × List ℕ)

-- what a reader's answer shows
abbrev pub seen : {A : Type 0} → Option (A × Bor (List ℕ)) → Read A
seen r = option_map (λ p. (p.0, p.1.now)) r

-- no call's line stands at the front
abbrev pub NoCall : List ℕ → Type 0
NoCall bs = (c : Call) (rest : List ℕ) → CallFits c → bs ≡ print_call c ++ rest → ⊥

-- no header's line does
abbrev pub NoHeader : List ℕ → Type 0
NoHeader bs = (h : Header) (rest : List ℕ) → HeaderFits h → bs ≡ print_header h ++ rest → ⊥

-- the call whose line stands at the front and what is left after it, or none
abbrev pub CallRead : List ℕ → Read Call → Type 0
CallRead bs (Some (c, rest)) = CallFits c × (bs ≡ print_call c ++ rest)
CallRead bs None = NoCall bs

abbrev pub HeaderRead : List ℕ → Read Header → Type 0
HeaderRead bs (Some (h, rest)) = HeaderFits h × (bs ≡ print_header h ++ rest)
HeaderRead bs None = NoHeader bs
