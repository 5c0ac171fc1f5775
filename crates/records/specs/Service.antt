-- MMS services (01, "MMS and GOOSE frames"; the numbers as in the source).
use Rattle.std.specs.Prelude.{ℕ, Bool, ◌||◌, List, [], ◌∷◌, ◌==◌, slice_index_or}
use Rattle.records.specs.declared.service.MmsServiceType.{MmsServiceType}
use Rattle.records.specs.declared.service.MmsServiceType.TheVariants.{Read, Write, GetNameList, GetVariableAccessAttributes, DefineNamedVariable}
use Rattle.records.specs.declared.service.MmsServiceType.TheVariants.{DeleteNamedVariable, GetDataValues, SetDataValues, Initiate, Conclude}
use Rattle.records.specs.declared.service.MmsServiceType.TheVariants.{SelectControl, CancelControl, Unknown}

-- the number of each service
abbrev pub service_number : MmsServiceType → ℕ
service_number Read = 1
service_number Write = 2
service_number GetNameList = 3
service_number GetVariableAccessAttributes = 4
service_number DefineNamedVariable = 5
service_number DeleteNamedVariable = 6
service_number GetDataValues = 7
service_number SetDataValues = 8
service_number Initiate = 9
service_number Conclude = 10
service_number SelectControl = 11
service_number CancelControl = 12
service_number Unknown = 255

-- the services by number, from 0
abbrev pub services : List MmsServiceType
services =
    Unknown ∷ Read ∷ Write ∷ GetNameList ∷ GetVariableAccessAttributes ∷ DefineNamedVariable ∷ DeleteNamedVariable
    ∷ GetDataValues ∷ SetDataValues ∷ Initiate ∷ Conclude ∷ SelectControl ∷ CancelControl ∷ []

-- the service of a raw number; 0 and 13 to 255 are unknown
unfoldable pub service_of : ℕ → MmsServiceType
service_of v = slice_index_or services v Unknown

-- writes are services 2, 5, 6 and 8
unfoldable pub is_write : MmsServiceType → Bool
is_write s = service_number s == 2 || service_number s == 5 || service_number s == 6 || service_number s == 8
