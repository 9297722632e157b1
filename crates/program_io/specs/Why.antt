-- Why a file can't be used, by what the system says. This project's own.
use Rattle.std.specs.Prelude.{codes, List, ℕ, ◌++◌}
use Rattle.std.specs.Fmt.{decimal}
use Rattle.std_io.specs.declared.io.kind.ErrorKind.{ErrorKind}
use Rattle.std_io.specs.declared.io.kind.ErrorKind.TheVariants as kind
use Rattle.program_io.specs.declared.why.Why.{Why}
use Rattle.program_io.specs.declared.why.Why.TheVariants.{NotThere, NotAllowed, Folder, NoFolder, Full, Itself, Nowhere, Loop, NotOwn, NoStream, NoArchive, NoPage, Dash, TooLong, Failed}
use Rattle.program_io.specs.declared.why.FileFault.{FileFault}
use Rattle.program_io.specs.declared.why.FileFault.TheVariants.{Memory, Unusable}

-- by the kind of an error
abbrev pub why_of : ErrorKind → Why
why_of kind.NotFound = NotThere
why_of kind.PermissionDenied = NotAllowed
why_of kind.ReadOnlyFilesystem = NotAllowed
why_of kind.IsADirectory = Folder
why_of kind.NotADirectory = NoFolder
why_of kind.StorageFull = Full
why_of kind.QuotaExceeded = Full
why_of kind.FileTooLarge = Full
why_of kind.FilesystemLoop = Loop
why_of rest = Failed

-- want of memory is no fault of the file
abbrev pub fault_by : ErrorKind → FileFault
fault_by kind.OutOfMemory = Memory
fault_by rest = Unusable (why_of rest)

-- as a person reads it
abbrev pub reason : Why → List ℕ
reason NotThere = codes "there is none of that name"
reason NotAllowed = codes "the system does not allow it"
reason Folder = codes "it is a folder"
reason NoFolder = codes "what stands before its last / is no folder"
reason Full = codes "the device is full"
reason Itself = codes "the same call reads it, or writes it twice"
reason Nowhere = codes "it is a link that leads nowhere"
reason Loop = codes "it is a link that leads back to itself"
reason NotOwn = codes "another user owns it"
reason NoStream = codes "it is no stream, and the last name is the stream's"
reason NoArchive = codes "it is no archive, and the last name is the archive's"
reason NoPage = codes "it is no page, and the third name is the page's"
reason Dash = codes "write /dev/stdout for standard output, or ./- for a file"
reason (TooLong most) = codes "it has more than " ++ (decimal most ++ codes " bytes")
reason Failed = codes "it failed"
