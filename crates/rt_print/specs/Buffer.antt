-- The contents of a buffer over a writer.
use Rattle.std.specs.Prelude.{ℕ, List, ◌∷◌, ◌++◌, length, Option, Some, None, if◌then◌else◌, nat_le}

-- the contents of a buffer over a writer: the writer's contents followed by the bytes held, if the writer's contents
-- are known and still at least as long as at the start. In front are the name of the reference to the writer and the
-- number of bytes at the start, since a call that writes to any writer promises nothing but its contents
abbrev pub buffered : ℕ → Option (List ℕ) → Option (List ℕ) → List ℕ → Option (List ℕ)
buffered name (Some began) (Some below) held =
    if nat_le (length began) (length below) then Some (name ∷ length began ∷ (below ++ held)) else None
buffered name (Some began) None held = None
buffered name None below held = None
