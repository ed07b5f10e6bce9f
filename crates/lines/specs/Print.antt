-- "The archive journal": how its numbers and lines are printed. Definitions only.
use Rattle.std.specs.Prelude.{ℕ, zero, suc, ◌+◌, ◌/◌, ◌%◌, ◌^◌, ◌<◌, List, [], ◌∷◌, ◌++◌, ltb, if◌then◌else◌}
use Rattle.breaker.specs.Answers.{ticket_values}
use Rattle.lines.specs.declared.Call.{Call}
use Rattle.lines.specs.declared.Order.{Order}
use Rattle.lines.specs.declared.Order.TheVariants.{Admit, Success, Failure, Abort, Reset}
use Rattle.lines.specs.declared.Header.{Header}
use Rattle.lines.specs.declared.HeaderPolicy.{HeaderPolicy}
use Rattle.lines.specs.declared.HeaderPolicy.TheVariants.{Consecutive, Ratio, Windowed}

-- ---- numbers. "Decimals have no leading zero, hex is lower case."

-- n in decimal, in at most k digits: what stands before its last digit, unless there is none, then that digit
unfoldable pub decimal_in : ℕ → ℕ → List ℕ
decimal_in zero n = []
decimal_in (suc k) n = (if ltb n 10 then [] else decimal_in k (n / 10)) ++ ((48 + n % 10) ∷ [])

-- n in decimal (it has at most suc n digits)
unfoldable pub print_decimal : ℕ → List ℕ
print_decimal n = decimal_in (suc n) n

-- the ASCII code of a digit below 16
abbrev pub glyph : ℕ → ℕ
glyph d = if ltb d 10 then 48 + d else 87 + d

-- the last k hexadecimal digits of n
unfoldable pub hex_in : ℕ → ℕ → List ℕ
hex_in zero n = []
hex_in (suc k) n = hex_in k (n / 16) ++ (glyph (n % 16) ∷ [])

-- "16 hex digits"
abbrev pub print_hex16 : ℕ → List ℕ
print_hex16 n = hex_in 16 n

-- ---- lines. "Lines end in a line feed; one space parts the fields."

-- a space and a decimal for each number
unfoldable pub print_fields : List ℕ → List ℕ
print_fields [] = []
print_fields (v ∷ vs) = 32 ∷ (print_decimal v ++ print_fields vs)

-- a letter, its numbers and a line feed: a call after its reading, a header but for the ratio's bits, and every line of the answer
abbrev pub print_line : ℕ → List ℕ → List ℕ
print_line letter vs = letter ∷ (print_fields vs ++ (10 ∷ []))

-- "Line 1: `C n`, `R window bits min` (16 hex digits) or `W failures period`, …
unfoldable pub print_policy : HeaderPolicy → List ℕ
print_policy (Consecutive n) = 67 ∷ print_fields (n ∷ [])
print_policy (Ratio window bits least) = 82 ∷ (print_fields (window ∷ []) ++ (32 ∷ (print_hex16 bits ++ print_fields (least ∷ []))))
print_policy (Windowed failures period) = 87 ∷ print_fields (failures ∷ period ∷ [])

-- … then cooldown ms, trials, required"
unfoldable pub print_header : Header → List ℕ
print_header h = print_policy h.policy ++ (print_fields (h.cooldown_ms ∷ h.trials ∷ h.required ∷ []) ++ (10 ∷ []))

-- "Each further line: reading, then `A` admit, `S`, `F`, `X` (success, failure, abort; then generation and probe 0/1) or `Z` reset."
abbrev pub letter_of : Order → ℕ
letter_of Admit = 65
letter_of (Success k) = 83
letter_of (Failure k) = 70
letter_of (Abort k) = 88
letter_of Reset = 90

abbrev pub fields_of : Order → List ℕ
fields_of Admit = []
fields_of (Success k) = ticket_values k
fields_of (Failure k) = ticket_values k
fields_of (Abort k) = ticket_values k
fields_of Reset = []

unfoldable pub print_call : Call → List ℕ
print_call c = print_decimal c.reading ++ (32 ∷ print_line (letter_of c.order) (fields_of c.order))

-- ---- "a number too wide for its field": 32 bits for n, window, min, failures, trials and required, 64 for the others

abbrev pub AllFit : List ℕ → Type 0
AllFit [] = Unit
AllFit (v ∷ vs) = (v < 2 ^ 64) × AllFit vs

abbrev pub CallFits : Call → Type 0
CallFits c = AllFit (c.reading ∷ fields_of c.order)

abbrev pub PolicyFits : HeaderPolicy → Type 0
PolicyFits (Consecutive n) = n < 2 ^ 32
PolicyFits (Ratio w b m) = (w < 2 ^ 32) × (b < 2 ^ 64) × (m < 2 ^ 32)
PolicyFits (Windowed f p) = (f < 2 ^ 32) × (p < 2 ^ 64)

abbrev pub HeaderFits : Header → Type 0
HeaderFits h = PolicyFits h.policy × (h.cooldown_ms < 2 ^ 64) × (h.trials < 2 ^ 32) × (h.required < 2 ^ 32)
