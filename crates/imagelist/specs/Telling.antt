-- What is told of the images that a bundle's Dockerfile names, or the bundle's refusal (own).
use Rattle.std.specs.Prelude.{◌≡◌, ◌⊎◌, ◌++◌, ℕ, Bool, true, List, [], ◌∷◌, Result, Ok, Err, codes}
use Rattle.std.specs.FinMap.{get}
use Rattle.serde_json.specs.Data.{Data, number, unsigned, boolean, string, object, no_members, member}
use Rattle.serde_json.specs.Written.{compact_text}
use Rattle.plain.specs.declared.fault.Fault.{Fault}
use Rattle.plain.specs.declared.fault.Fault.TheVariants.{Because, Memory}
use Rattle.plain.specs.declared.refusal.Refusal.{Refusal}
use Rattle.counted.specs.Edges.{line_of}
use Rattle.expand.specs.Reasons.{rejection_of}
use Rattle.expand.specs.declared.reason.Rejection.{Rejection}
use Rattle.instructions.specs.Instruction.{Instruction}
use Rattle.dockerfile.specs.Dockerfile.{AreInstructions, IsRefused}
use Rattle.stages.specs.Naming.{names_in}
use Rattle.stages.specs.Needed.{AreNeeded}
use Rattle.stages.specs.Resolved.{resolved}
use Rattle.stages.specs.Table.{TableValue}
use Rattle.strict.specs.Written.{list_data}
use Rattle.imageconfig.specs.Reading.{config_in}
use Rattle.imageconfig.specs.declared.config.Config.{Config}
use Rattle.bundle.specs.Reading.{ReadsBundle}
use Rattle.bundle.specs.declared.whole.Bundle.{Bundle}
use Rattle.stubs.specs.Stubbing.{HoldsBy}
use Rattle.imagelist.specs.Images.{images_of}
use Rattle.imagelist.specs.declared.image_rows.ImageUse.{ImageUse}

-- images by their names, or a refusal
abbrev pub Named : Type 0
Named = Result (List (List ℕ × ImageUse)) Rejection

-- the images that the stages of a file name, or the refusal of its stages
abbrev pub TableNames : Result TableValue Rejection → Named → Type 0
TableNames (Err refusal) named = named ≡ Err refusal
TableNames (Ok table) named = (needed : List Bool) × AreNeeded table.stages table.target needed × (named ≡ Ok (images_of needed table.stages))

-- the images that a bundle's Dockerfile names, or the refusal of its text or of its stages
abbrev pub FileNames : Bundle Config → Named → Type 0
FileNames bundle named =
    ((refusal : Refusal) × IsRefused bundle.dockerfile refusal × (named ≡ Err (rejection_of refusal)))
    ⊎ ((is : List Instruction) × AreInstructions bundle.dockerfile is
    × TableNames (resolved (names_in bundle.images) (get bundle.args) bundle.target is) named)

-- The images that the Dockerfile of the bundle of these bytes names, where stubs stand for those that the bundle lacks. Or the bundle's refusal:
-- the least fault by phase, line and number, the phases being the bundle, its ignore file, the Dockerfile's text, its lines, its instructions
-- and its stages. No stage is evaluated.
abbrev pub NamesImages : List ℕ → Named → Type 0
NamesImages bytes named =
    ((refusal : Refusal) × ReadsBundle config_in bytes (Err (Because refusal)) × (named ≡ Err (rejection_of refusal)))
    ⊎ ((bundle : Bundle Config) × ReadsBundle config_in bytes (Ok bundle) × HoldsBy true (λ given. FileNames given named) bundle)

-- an image of a platform, as JSON
unfoldable pub image_data : List ℕ → List ℕ → ImageUse → Data
image_data platform name used = object (member (codes "lines") (list_data (λ line. number (unsigned line)) used.lines)
    (member (codes "name") (string name)
    (member (codes "needed") (boolean used.needed)
    (member (codes "platform") (string platform) no_members))))

-- what is told of an image: a line of compact JSON
abbrev pub image_line : List ℕ → List ℕ → ImageUse → List ℕ
image_line platform name used = line_of (compact_text (image_data platform name used))

-- what is told of images, in their order
abbrev pub images_text : List ℕ → List (List ℕ × ImageUse) → List ℕ
images_text platform [] = []
images_text platform (row ∷ rows) = image_line platform row.0 row.1 ++ images_text platform rows

-- a call answers what is so of images, or of their refusal; want of memory says nothing
abbrev pub Reports : (Named → Type 0) → Result (List (List ℕ × ImageUse)) (Fault Rejection) → Type 0
Reports P (Ok images) = P (Ok images)
Reports P (Err (Because refusal)) = P (Err refusal)
Reports P (Err Memory) = Unit {0}

-- What is told of the images that the Dockerfile of a bundle of these bytes names, for this platform: a line for each image, in the order in which they
-- are named first; or the refusal. Of
--
--   FROM golang:1.22 AS a
--   FROM node:20 AS b
--   FROM scratch
--   COPY --from=a /x /x
--   COPY --from=alpine /y /y
--   RUN --mount=type=bind,from=golang:1.22,target=/m true
--
-- for linux/amd64 that is
--
--   {"lines":[1,6],"name":"golang:1.22","needed":true,"platform":"linux/amd64"}
--   {"lines":[2],"name":"node:20","needed":false,"platform":"linux/amd64"}
--   {"lines":[5],"name":"alpine","needed":true,"platform":"linux/amd64"}
--
-- and of
--
--   ARG V=3.20
--   FROM alpine:$V AS base
--   FROM base AS unused
--   COPY --from=alpine:3.20 /etc/os-release /
--   FROM scratch
--   COPY --from=base /bin /bin
--
-- for linux/arm64/v8 the one line {"lines":[2,4],"name":"alpine:3.20","needed":true,"platform":"linux/arm64/v8"}.
abbrev pub TellsImages : List ℕ → List ℕ → Result (List ℕ) (Fault Rejection) → Type 0
TellsImages platform bytes (Ok text) = (images : List (List ℕ × ImageUse)) × NamesImages bytes (Ok images) × (text ≡ images_text platform images)
TellsImages platform bytes (Err (Because refusal)) = NamesImages bytes (Err refusal)
TellsImages platform bytes (Err Memory) = Unit {0}
