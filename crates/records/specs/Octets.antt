-- Octets and other numbers in lists: by place, as a function of the place, and written over others.
use Rattle.std.specs.Prelude.{ℕ, zero, suc, ◌+◌, Bool, true, ◌&&◌, List, [], ◌∷◌, ◌++◌, ◌==◌, slice_index, slice_set}

-- octet k of a list, 0 past its end
abbrev pub octet_at : List ℕ → ℕ → ℕ
octet_at octets k = slice_index octets k

-- the list of f 0 to f (n − 1)
unfoldable pub tabulate : (ℕ → ℕ) → ℕ → List ℕ
tabulate f zero = []
tabulate f (suc n) = tabulate f n ++ f n ∷ []

-- whether f and g agree below n
unfoldable pub agree : (ℕ → ℕ) → (ℕ → ℕ) → ℕ → Bool
agree f g zero = true
agree f g (suc n) = agree f g n && f n == g n

-- a list with f 0 to f (n − 1) in the places from start on
unfoldable pub overwritten : List ℕ → ℕ → (ℕ → ℕ) → ℕ → List ℕ
overwritten l start f zero = l
overwritten l start f (suc n) = slice_set (overwritten l start f n) (start + n) (f n)
