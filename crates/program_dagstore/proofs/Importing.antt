-- What is reported of a CAR file that is not stored.
use Rattle.std.proofs.Common.{◌≡◌, ℕ, List, ◌++◌, codes, refl, subst}
use Rattle.sqlite_trees.specs.declared.store.Store.{Ghosts}
use Rattle.dagcbor_heads.specs.Inputs.{not_lending}
use Rattle.dagcbor_heads.specs.Reading.{Reading}
use Rattle.files_car.specs.Car.{Section}
use Rattle.store_on_disk.specs.Cars.{IsFileRead, ReadRefused}
use Rattle.store_on_disk.specs.declared.car_error.ReadCarError.{ReadCarError}
use Rattle.files_car.specs.declared.error.CarError.{CarError}
use Rattle.files_car.specs.declared.error.CarError.TheVariants as file
use Rattle.program_parts.specs.Names.{fault_name}
use Rattle.program_dagstore.specs.Files.{file_text, file_status}

pub no_file : {E : Type 0} (e : CarError E) → ((x : E) → e ≡ file.Read x → ⊥) → codes "the input is not a CAR file: " ++ fault_name e ≡ file_text e
no_file (file.Read x) not = absurd (not x refl)
no_file file.Truncated not = refl
no_file file.InvalidLength not = refl
no_file (file.InvalidCid c) not = refl
no_file (file.NoBlock c) not = refl
no_file file.OtherHeader not = refl
no_file file.InvalidOffset not = refl
no_file file.OutOfMemory not = refl

pub no_file_status : {E : Type 0} (e : CarError E) → ((x : E) → e ≡ file.Read x → ⊥) → 1 ≡ file_status e
no_file_status (file.Read x) not = absurd (not x refl)
no_file_status file.Truncated not = refl
no_file_status file.InvalidLength not = refl
no_file_status (file.InvalidCid c) not = refl
no_file_status (file.NoBlock c) not = refl
no_file_status file.OtherHeader not = refl
no_file_status file.InvalidOffset not = refl
no_file_status file.OutOfMemory not = refl

pub read_from : (roots : List (List ℕ)) (sections : List Section) (r source left : Reading) → r ≡ source → IsFileRead roots sections (not_lending r) left → IsFileRead roots sections (not_lending source) left
read_from roots sections r source left same h = subst (λ x. IsFileRead roots sections (not_lending x) left) same h

pub refused_from : {S E : Type 0} (g : Ghosts S) (r source left : Reading) (old : S) (error : ReadCarError E) (new : S) → r ≡ source → ReadRefused g (not_lending r) old error left new → ReadRefused g (not_lending source) old error left new
refused_from g r source left old error new same h = subst (λ x. ReadRefused g (not_lending x) old error left new) same h
