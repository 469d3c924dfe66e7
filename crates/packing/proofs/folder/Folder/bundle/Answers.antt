use Rattle.std.proofs.Common.{◌≡◌, Some}
use Rattle.serde_json.specs.View.{members_view}
use Rattle.packing.specs.Asked.{asked_of}
use Rattle.packing.specs.PrivateImages.{image_rows}
use Rattle.packing.specs.PrivatePacked.{beside_among}
use Rattle.packing.proofs.PlainFacts.{text_of_members}
use Rattle.packing.proofs.folder.Folder.bundle.Goals as goal

pub returns-in_ok-text_with-in-Some-clause-is : goal.returns-in_ok-text_with-in-Some-clause-is
returns-in_ok-text_with-in-Some-clause-is c =
    let is : Some (members_view c.in-Some.members.entries) ≡ beside_among c.args.self c.args.file (asked_of c.args.options) = rw c.in-Some.is at c.in_ok-members.ensures in
    (text_of_members c.args.self c.args.file (asked_of c.args.options) (image_rows c.args.images) (members_view c.in-Some.members.entries) c.in_ok-text_with-in-Some.field-0
    c.requires.images is c.in_ok-text_with-in-Some.ensures).0

pub returns-in_ok-text_with-in-Some-clause-reads : goal.returns-in_ok-text_with-in-Some-clause-reads
returns-in_ok-text_with-in-Some-clause-reads c =
    let is : Some (members_view c.in-Some.members.entries) ≡ beside_among c.args.self c.args.file (asked_of c.args.options) = rw c.in-Some.is at c.in_ok-members.ensures in
    (text_of_members c.args.self c.args.file (asked_of c.args.options) (image_rows c.args.images) (members_view c.in-Some.members.entries) c.in_ok-text_with-in-Some.field-0
    c.requires.images is c.in_ok-text_with-in-Some.ensures).1
