-- Writing a store as a CAR file, and reading it back.
use Rattle.std.specs.Prelude.{◌≡◌, ℕ, List, [], ⊤, Some, Result, Ok, Err, Vec}
use Rattle.std.specs.declared.alloc.Global.{Global}
use Rattle.std.specs.declared.convert.Infallible.{Infallible}
use Rattle.serde_ipld_dagcbor.specs.Reading.{Reading}
use Rattle.serde_ipld_dagcbor.specs.Cid.{CidParts}
use Rattle.serde_ipld_dagcbor.specs.Walks.{forms}
use Rattle.files_car.specs.Car.{IsCar}
use Rattle.dagcbor_blocks.specs.Blocks.{Held, block_at}
use Rattle.dagcbor_blocks.specs.Cars.{ReadsCar}
use Rattle.files_car.specs.declared.error.CarError.TheVariants as car
use Rattle.files_car.specs.declared.each.ReadCarError.{ReadCarError}
use Rattle.files_car.specs.declared.each.ReadCarError.TheVariants as stop
use Rattle.dagcbor_blocks.specs.declared.put_error.PutBlockError.{PutBlockError}
use Rattle.dagcbor_blocks.specs.declared.put_error.PutBlockError.TheVariants as puts

-- these roots were read, and each name has the block that it had; or memory ran out
abbrev pub IsFilledBack : List (List ℕ) → Held
    → Result (Vec CidParts Global) (ReadCarError Infallible PutBlockError) → Held → Type 0
IsFilledBack roots blocks (Ok v) after = (forms v.items ≡ roots)
    × ((name : CidParts) → block_at name after ≡ block_at name blocks)
IsFilledBack roots blocks (Err (stop.Header car.OutOfMemory)) after = ⊤
IsFilledBack roots blocks (Err (stop.Section n car.OutOfMemory)) after = ⊤
IsFilledBack roots blocks (Err (stop.Block n name puts.OutOfMemory)) after = ⊤
IsFilledBack roots blocks (Err _) after = ⊥

-- If a store of these blocks is written, an empty store that reads the file has the same blocks.
abbrev pub WrittenThenFilled : Held → Type 0
WrittenThenFilled blocks = (b : List ℕ) (roots : List (List ℕ)) (old new : Reading) (after : Held)
    (result : Result (Vec CidParts Global) (ReadCarError Infallible PutBlockError))
    → IsCar b roots blocks → old.left ≡ Some b → ReadsCar old [] result new after
    → IsFilledBack roots blocks result after
