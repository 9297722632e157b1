-- An application whose box lasts. This project's own.
use Rattle.app_host.specs.Object.{Object}
use Rattle.flight_profile.specs.Members.{meaning_of}
use Rattle.c_interface.specs.declared.lasting.LastingBox.{LastingBox}

-- what it means: what the application in its box means
abbrev pub lasting_meaning : LastingBox → Object
lasting_meaning it = meaning_of it.app
