-- What can be written: each list is counted by a number of four bytes.
use Rattle.std.specs.Prelude.{◌<◌, ◌^◌, List, length, All}
use Rattle.c_types.specs.declared.parts.TagDef.{TagDef}
use Rattle.c_types.specs.declared.parts.Signature.{Signature}
use Rattle.bm_isa.specs.Encoding.{code_bytes}
use Rattle.bm_code.specs.declared.code.MachineCode.{MachineCode}
use Rattle.bm_code.specs.declared.code.MachineFunction.{MachineFunction}
use Rattle.bm_code.specs.declared.code.MachineGlobal.{MachineGlobal}
use Rattle.cg_image.specs.Image.{result_number}

abbrev pub IsCounted : {A : Type 0} → List A → Type 0
IsCounted xs = length xs < 2 ^ 32

abbrev pub IsTagCounted : TagDef → Type 0
IsTagCounted tag = IsCounted tag.fields

-- the result's number has four bytes too
pub record IsSignatureCounted (g : Signature) : Type 0 where
  pub result : result_number g.result < 2 ^ 32
  pub params : IsCounted g.params

abbrev pub IsGlobalCounted : MachineGlobal → Type 0
IsGlobalCounted g = IsCounted g.bytes

abbrev pub IsFunctionCounted : MachineFunction → Type 0
IsFunctionCounted f = IsCounted (code_bytes f.code)

-- each list of a program has fewer than 4,294,967,296 items
pub record AreCounted (code : MachineCode) : Type 0 where
  pub names : IsCounted code.names
  pub each_name : All IsCounted code.names
  pub types : IsCounted code.types.types
  pub structs : IsCounted code.types.structs
  pub each_struct : All IsTagCounted code.types.structs
  pub unions : IsCounted code.types.unions
  pub each_union : All IsTagCounted code.types.unions
  pub signatures : IsCounted code.types.signatures
  pub each_signature : All IsSignatureCounted code.types.signatures
  pub globals : IsCounted code.globals
  pub each_global : All IsGlobalCounted code.globals
  pub functions : IsCounted code.functions
  pub each_function : All IsFunctionCounted code.functions
  pub sites : IsCounted code.sites
