-- The words of a line.
use Rattle.std.specs.Prelude.{ℕ, Bool, true, false, cond, ◌||◌, List, [], ◌∷◌, ◌==◌, filter}
use Rattle.std.specs.List.{before_first, after_first, position_or_len, slice_split}
use Rattle.std.specs.Str.{bytes_eq, is_utf8}
use Rattle.text.specs.declared.words.Words.{Words}

-- spaces and tabs separate words
abbrev pub blank : ℕ → Bool
blank b = b == 32 || b == 9

-- a carriage return at the very end of a line is ignored
abbrev pub unreturned : List ℕ → List ℕ
unreturned [] = []
unreturned (b ∷ []) = cond (b == 13) [] (b ∷ [])
unreturned (b ∷ c ∷ bs) = b ∷ unreturned (c ∷ bs)

-- `#` starts a comment
abbrev pub uncommented : List ℕ → List ℕ
uncommented bs = before_first (λ b. b == 35) bs

-- whether a piece has a byte
abbrev pub is_solid : List ℕ → Bool
is_solid [] = false
is_solid (b ∷ bs) = true

-- the pieces that are not empty
abbrev pub solid : List (List ℕ) → List (List ℕ)
solid ps = filter is_solid ps

-- the pieces between separators, without the empty ones
abbrev pub solid_pieces : List ℕ → List (List ℕ)
solid_pieces bs = solid (slice_split blank bs)

-- the words of a line
abbrev pub words_of : List ℕ → List (List ℕ)
words_of line = solid_pieces (uncommented (unreturned line))

-- the words that a cursor has still to give
abbrev pub to_come : Words → List (List ℕ)
to_come w = solid_pieces w.rest.now

-- how many words come before the first that is this name
abbrev pub count_before : List ℕ → List (List ℕ) → ℕ
count_before name ws = position_or_len (λ w. bytes_eq w name) ws

-- the bytes before a word's first colon, or all where there is none
abbrev pub before_colon : List ℕ → List ℕ
before_colon w = before_first (λ b. b == 58) w

-- the bytes behind it, which are none where there is no colon
abbrev pub behind_colon : List ℕ → List ℕ
behind_colon w = after_first (λ b. b == 58) w

-- the bytes are the UTF-8 of characters
abbrev pub is_text : List ℕ → Bool
is_text bs = is_utf8 bs
